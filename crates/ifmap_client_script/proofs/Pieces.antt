-- What is written piece by piece, and counts of faults.
use Rattle.std.proofs.Common.{◌≡◌, ℕ, ◌+◌, ◌≤◌, List, ◌++◌, length, take, sym, subst, ◌∙◌, min, arith}
use Rattle.std.specs.Prelude.{Option, Result, Ok, Err}
use Rattle.std.proofs.KnownBytes.{Appends-trans}
use Rattle.std.proofs.Math.Seq.{take-append-add}
use Rattle.std.proofs.lemmas.List.{take-append-le, take_min}
use Rattle.std.specs.Io.KnownBytes.{Appends}
use Rattle.ifmap_io.specs.Causes.{Rose}
use Rattle.ifmap_client_script.specs.ScriptFailures.{SendsText, WritesText}
use Rattle.ifmap_client_script.specs.declared.outcomes.ScriptFailure.{ScriptFailure}
use Rattle.ifmap_client_script.specs.declared.outcomes.ScriptFailure.TheVariants as failure
use Rattle.ifmap_io.specs.Rises.{rose_since}

pub rose_till : (before mid now : ℕ) → Rose before mid → mid ≤ now → Rose before now
rose_till before mid now rose later = omega arith

-- a front of the first of two texts
front_of : (a b : List ℕ) (n : ℕ) → take (min n (length a)) (a ++ b) ≡ take n a
front_of a b n = take-append-le (min n (length a)) a b (omega arith) ∙ take_min n a

-- where the first of two texts was cut, both were
pub cut_first : (old new : Option (List ℕ)) (before after : ℕ) (a b : List ℕ) (e : ScriptFailure)
    → WritesText old new before after a (Err e) → WritesText old new before after (a ++ b) (Err e)
cut_first old new before after a b failure.WriteFault w =
    ((min w.0.0 (length a), subst (Appends old new) (sym (front_of a b w.0.0)) w.0.1), w.1)
cut_first old new before after a b failure.BadLine w = absurd w
cut_first old new before after a b failure.ReadFault w = absurd w
cut_first old new before after a b failure.LinkFault w = absurd w
cut_first old new before after a b failure.LinkEnded w = absurd w
cut_first old new before after a b failure.BadReply w = absurd w
cut_first old new before after a b failure.NoMemory w = absurd w

-- the second is written after the first
pub then_second : (old mid new : Option (List ℕ)) (before between after : ℕ) (a b : List ℕ) (r : Result (Unit {0}) ScriptFailure)
    → Appends old mid a → before ≤ between → WritesText mid new between after b r → WritesText old new before after (a ++ b) r
then_second old mid new before between after a b (Ok _) first later second = Appends-trans old mid new a b first second
then_second old mid new before between after a b (Err failure.WriteFault) first later second = (
  (
    length a + second.0.0,
    subst (Appends old new) (sym (take-append-add a b second.0.0)) (Appends-trans old mid new a (take second.0.0 b) first second.0.1),
  ),
  rose_since before between after later second.1,
)
then_second old mid new before between after a b (Err failure.BadLine) first later second = absurd second
then_second old mid new before between after a b (Err failure.ReadFault) first later second = absurd second
then_second old mid new before between after a b (Err failure.LinkFault) first later second = absurd second
then_second old mid new before between after a b (Err failure.LinkEnded) first later second = absurd second
then_second old mid new before between after a b (Err failure.BadReply) first later second = absurd second
then_second old mid new before between after a b (Err failure.NoMemory) first later second = absurd second

-- what is written is sent
pub sends : (old new : Option (List ℕ)) (before after : ℕ) (text : List ℕ) (r : Result (Unit {0}) ScriptFailure)
    → WritesText old new before after text r → SendsText old new before after text r
sends old new before after text (Ok _) w = w
sends old new before after text (Err failure.WriteFault) w = w
sends old new before after text (Err failure.BadLine) w = absurd w
sends old new before after text (Err failure.ReadFault) w = absurd w
sends old new before after text (Err failure.LinkFault) w = absurd w
sends old new before after text (Err failure.LinkEnded) w = absurd w
sends old new before after text (Err failure.BadReply) w = absurd w
sends old new before after text (Err failure.NoMemory) w = absurd w
