-- An option and its value, and the parts of a clause on an option by its cases.
use Rattle.std.specs.Prelude.{◌≡◌, ◌<◌, ℕ, zero, suc, true, false, Option, Some, None, MatchOption, IfSome, IfNone, IsSome, is_some, refl}
use Rattle.std.specs.Option.{option_or}
use Rattle.std.proofs.lemmas.Bool.{false≢true}
use Rattle.std.proofs.Common.{ap, sym, ◌∙◌, arith}

-- one that is there has a value
pub some_is : {X : Type 0} (o : Option X) → IsSome o → (x : X) × (o ≡ Some x)
some_is None e = cc
some_is (Some x) e = (x, refl)

pub is_some_of : {X : Type 0} (o : Option X) (x : X) → o ≡ Some x → IsSome o
is_some_of o x e = ap is_some e

pub some_none : {X : Type 0} (o : Option X) → IsSome o → o ≡ None → ⊥
some_none o h e = false≢true (sym (ap is_some e) ∙ h)

-- of a clause by both cases, each
pub some_of : {X : Type 0} (o : Option X) (P : Type 0) (Q : X → Type 0) → MatchOption o P Q → IfSome o Q
some_of None P Q h = tt
some_of (Some x) P Q h = h

pub none_of : {X : Type 0} (o : Option X) (P : Type 0) (Q : X → Type 0) → MatchOption o P Q → IfNone o P
none_of None P Q h = h
none_of (Some x) P Q h = tt

-- in place of none, none
pub or_none : {X : Type 0} (o : Option X) → option_or o None ≡ o
or_none None = refl
or_none (Some x) = refl

-- where some are left, one comes: where none comes, none is left
pub none_left : {X : Type 0} (o : Option X) (n : ℕ) → (0 < n → IsSome o) → o ≡ None → n ≡ 0
none_left None zero there is = refl
none_left None (suc n) there is = let bad : false ≡ true = there (omega arith) in cc
none_left (Some x) n there is = cc
