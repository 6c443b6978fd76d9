-- Lines at the front of bytes: where the first newline stands, a line ends.
use Rattle.std.proofs.Common.{◌≡◌, ◌≢◌, ◌⊎◌, inl, inr, ap, sym, subst, ℕ, ◌+◌, ◌<◌, ◌≤◌, List, [], ◌++◌, length, take, drop, arith}
use Rattle.std.specs.Prelude.{Option, Some, None, Result, Ok, Err}
use Rattle.std.proofs.lemmas.List.{length-take-le}
use Rattle.ifmap_elem.specs.Chars.{line_feed}
use Rattle.ifmap_input.specs.FirstPlaceLaws.{cut_at_first_place, first_place_is, none_is_short, text_before}
use Rattle.ifmap_client.specs.Lines.{IsLine, line_limit}
use Rattle.ifmap_client.specs.declared.lines.Line.{Line}
use Rattle.ifmap_client_script.specs.declared.outcomes.ScriptFailure.{ScriptFailure}
use Rattle.ifmap_client_script.specs.declared.outcomes.ScriptFailure.TheVariants as failure
use Rattle.ifmap_client_script.specs.declared.scripts.NextLine.{NextLine}
use Rattle.ifmap_client_script.specs.Deeds.{CanDo, Known}
use Rattle.ifmap_client_script.specs.TakenBytes.{WaitsForLine, IsLineEnd, IsLineTooLong, TakenBytes}
use Rattle.ifmap_client_script.specs.Scripts.{BeginsLine, HasNoNewline, IsBadLine, IsWithinLineLimits}
use Rattle.ifmap_client_script.specs.Turns.{ReadsAt, ReadsNext}

-- the line that ends at the first newline
pub begins_at : (offset place : ℕ) (bytes : List ℕ) → IsLineEnd bytes place → IsWithinLineLimits offset place
    → BeginsLine offset bytes (take place bytes) (drop (place + 1) bytes)
begins_at offset place bytes e within =
    let w = e.within in
    let size : length (take place bytes) ≡ place = length-take-le place bytes (omega arith) in
    let ends = within.ends in
    let cut = cut_at_first_place line_feed bytes place e in
    record { bytes_are = cut.0; plain = cut.1; ends = omega arith }

some_at : (place : ℕ) (bytes : List ℕ) → place < length bytes → bytes ≢ []
some_at place bytes h e = let none : length bytes ≡ 0 = ap length e in absurd (omega arith)

-- a line that means nothing that can be carried out
pub bad_at : (offset place : ℕ) (bytes : List ℕ) (known : Known) → IsLineEnd bytes place
    → ((line : Line) → IsLine (take place bytes) line → CanDo known line → ⊥) → IsBadLine offset known bytes
bad_at offset place bytes known e none = (
  some_at place bytes e.within,
  λ more text rest line begins means can.
      let same = text_before line_feed bytes more text rest begins.bytes_are begins.plain place e in
      none line (subst (λ (t : List ℕ). IsLine t line) same means) can,
)

-- a line that is too long
pub bad_long : (offset : ℕ) (bytes : List ℕ) (known : Known) → IsLineTooLong offset bytes → IsBadLine offset known bytes
bad_long offset bytes known long = (
  long.some,
  λ more text rest line begins means can.
      at more text rest begins means.0 long.size_is,
)
  where
    at : (more text rest : List ℕ) (begins : BeginsLine offset (bytes ++ more) text rest) → length text ≤ line_limit
        → IsLineEnd bytes long.size ⊎ ((long.size ≡ length bytes) × HasNoNewline bytes) → ⊥
    at more text rest begins short (inl e) =
        let is : long.size ≡ length text =
        first_place_is line_feed bytes more text rest begins.bytes_are begins.plain long.size e in
        let ends = begins.ends in
        long.long (record { short = omega arith; ends = omega arith })
    at more text rest begins short (inr e) =
        let is = e.0 in
        let less = none_is_short line_feed bytes more text rest begins.bytes_are begins.plain e.1 in
        let ends = begins.ends in
        long.long (record { short = omega arith; ends = omega arith })

-- ---- what reading the next line gives

module _ (left_old left_new : Option (List ℕ)) (offset : ℕ) (old new : TakenBytes) where
  pub reads_line : (place : ℕ) (r : Result (Option NextLine) ScriptFailure)
      → WaitsForLine left_old left_new offset old new (Ok (Some place))
      → ReadsAt new.bytes place r → ReadsNext left_old left_new offset old new r
  reads_line place (Ok (Some next)) a reads = (
    a.0,
    record {
      end = subst (λ (n : ℕ). IsLineEnd new.bytes n) (sym reads.0) a.1;
      within = subst (λ (n : ℕ). IsWithinLineLimits offset n) (sym reads.0) a.2;
      means = subst (λ (n : ℕ). IsLine (take n new.bytes) next.line) (sym reads.0) reads.1;
    },
  )
  reads_line place (Ok None) a reads = absurd reads
  reads_line place (Err failure.BadLine) a reads =
      (a.0, λ known. bad_at offset place new.bytes known a.1 (λ line means can. reads line means))
  reads_line place (Err failure.NoMemory) a reads =
      record { got = a.0.got; consumed = a.0.consumed; idle = λ ended. (a.0.idle ended).1 }
  reads_line place (Err failure.ReadFault) a reads = absurd reads
  reads_line place (Err failure.WriteFault) a reads = absurd reads
  reads_line place (Err failure.LinkFault) a reads = absurd reads
  reads_line place (Err failure.LinkEnded) a reads = absurd reads
  reads_line place (Err failure.BadReply) a reads = absurd reads

  pub reads_err : (e : ScriptFailure) → WaitsForLine left_old left_new offset old new (Err e)
      → ReadsNext left_old left_new offset old new (Err e)
  reads_err failure.BadLine a = (a.0, λ known. bad_long offset new.bytes known a.1)
  reads_err failure.ReadFault a = a
  reads_err failure.NoMemory a = a
  reads_err failure.WriteFault a = absurd a
  reads_err failure.LinkFault a = absurd a
  reads_err failure.LinkEnded a = absurd a
  reads_err failure.BadReply a = absurd a

abbrev IsFault : Result (Option NextLine) ScriptFailure → Type 0
IsFault r = r ≡ Err failure.ReadFault

pub reads_no_fault : {P : Type 0} (bytes : List ℕ) (place : ℕ) (r : Result (Option NextLine) ScriptFailure) → ReadsAt bytes place r
    → IsFault r → P
reads_no_fault bytes place (Ok found) reads e = cc
reads_no_fault bytes place (Err failure.ReadFault) reads e = absurd reads
reads_no_fault bytes place (Err failure.BadLine) reads e = cc
reads_no_fault bytes place (Err failure.NoMemory) reads e = cc
reads_no_fault bytes place (Err failure.WriteFault) reads e = cc
reads_no_fault bytes place (Err failure.LinkFault) reads e = cc
reads_no_fault bytes place (Err failure.LinkEnded) reads e = cc
reads_no_fault bytes place (Err failure.BadReply) reads e = cc
