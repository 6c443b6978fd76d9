-- What is written and then handed on.
use Rattle.std.proofs.Common.{◌≡◌, ℕ, ◌+◌, List, [], ◌++◌, length, take, refl, sym, ap, subst, ◌∙◌, append-nil, min, arith}
use Rattle.std.specs.Prelude.{Option, Result, Ok, Err}
use Rattle.std.proofs.KnownBytes.{Appends-kept, Appends-nil, Appends-trans}
use Rattle.std.proofs.Math.Seq.{take-append-add}
use Rattle.std.proofs.lemmas.List.{take-append-le, take_min}
use Rattle.std.specs.Io.KnownBytes.{Appends, Keeps}
use Rattle.ifmap_io.specs.Written.{WritesAll}
use Rattle.ifmap_server.specs.Output.{AppendsPrefix}

prefix_of : (a b c : List ℕ) (n : ℕ) → (m : ℕ) × (take m (a ++ (b ++ c)) ≡ a ++ take n b)
prefix_of a b c n = (
  length a + min n (length b),
  take-append-add a (b ++ c) (min n (length b))
      ∙ ap (λ (x : List ℕ). a ++ x) (take-append-le (min n (length b)) b c (omega arith) ∙ take_min n b),
)

pub appends_prefix : (old mid new : Option (List ℕ)) (a b c text : List ℕ) → text ≡ a ++ (b ++ c) → Appends old mid a
    → AppendsPrefix mid new b
    → AppendsPrefix old new text
appends_prefix old mid new a b c text is first second =
    let p = prefix_of a b c second.0 in
    (p.0, subst (Appends old new) (sym p.1 ∙ ap (take p.0) (sym is)) (Appends-trans old mid new a (take second.0 b) first second.1))

pub keeps_prefix : (old new : Option (List ℕ)) (text : List ℕ) → Keeps old new → AppendsPrefix old new text
keeps_prefix old new text kept = (0, Appends-kept old old new [] (Appends-nil old) kept)

-- a text that is sent in two pieces
pub first_prefix : (old new : Option (List ℕ)) (a b : List ℕ) → AppendsPrefix old new a → AppendsPrefix old new (a ++ b)
first_prefix old new a b first = appends_prefix old old new [] a b (a ++ b) refl (Appends-nil old) first

pub second_prefix : (old mid new : Option (List ℕ)) (a b : List ℕ) → Appends old mid a → AppendsPrefix mid new b
    → AppendsPrefix old new (a ++ b)
second_prefix old mid new a b first second =
    appends_prefix old mid new a b [] (a ++ b) (ap (λ (x : List ℕ). a ++ x) (sym (append-nil b))) first second

pub both_sent : {T E : Type 0} (result : Result T E) (old mid new : Option (List ℕ)) (a b : List ℕ) → Appends old mid a
    → WritesAll mid new result b → WritesAll old new result (a ++ b)
both_sent (Ok x) old mid new a b first second = Appends-trans old mid new a b first second
both_sent (Err e) old mid new a b first second = second_prefix old mid new a b first second
