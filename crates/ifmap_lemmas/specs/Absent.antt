-- Options that are none, and clauses on options in which one may be none.
use Rattle.std.specs.Prelude.{◌≡◌, Bool, true, false, Option, Some, None, IfSome, IfNone, is_some, refl}
use Rattle.std.proofs.Common.{Bor, sym, ◌∙◌, subst}
use Rattle.std.specs.Bool.{OnFalse, OnTrue}
use Rattle.std.specs.Option.{option_copied}
use Rattle.std.proofs.lemmas.Option.{none-some, same_Some}

-- one that has no value is none
pub none_where_not_some : {X : Type 0} (o : Option X) → is_some o ≡ false → o ≡ None
none_where_not_some None h = refl
none_where_not_some (Some x) h = let wrong : true ≡ false = h in cc

pub none_where_no_value : {X : Type 0} (o : Option X) → ((x : X) → o ≡ Some x → ⊥) → o ≡ None
none_where_no_value None h = refl
none_where_no_value (Some x) h = absurd (h x refl)

-- what follows from a clause on a value, and on none
pub if_some_weaker : {X : Type 0} (o : Option X) (P Q : X → Type 0) → ((x : X) → P x → Q x) → IfSome o P → IfSome o Q
if_some_weaker None P Q f h = tt
if_some_weaker (Some x) P Q f h = f x h

pub if_none_weaker : {X : Type 0} (o : Option X) (P Q : Type 0) → (P → Q) → IfNone o P → IfNone o Q
if_none_weaker None P Q f h = f h
if_none_weaker (Some x) P Q f h = tt

-- what holds of each value holds of one that may be none
pub if_some_any : {X : Type 0} (o : Option X) (P : X → Type 0) → ((x : X) → P x) → IfSome o P
if_some_any None P f = tt
if_some_any (Some x) P f = f x

-- an option is not both none and a value
pub none_and_some : {X : Type 0} (o : Option X) (x : X) → o ≡ None → o ≡ Some x → ⊥
none_and_some o x none some = none-some x (sym none ∙ some)

-- two values of one option are one
pub one_of : {X : Type 0} (o : Option X) (x y : X) → o ≡ Some x → o ≡ Some y → x ≡ y
one_of o x y p q = same_Some x y (sym p ∙ q)

-- a test of whether there is a value tells which of two clauses is so
pub some_or_not : {X : Type 0} (o : Option X) (Found : X → Type 0) (Lacking : Type 0) → ((x : X) → Found x → Lacking → ⊥) → IfSome o Found
    → IfNone o Lacking → (b : Bool) → b ≡ is_some o → OnTrue b (Lacking → ⊥) × OnFalse b Lacking
some_or_not None Found Lacking apart f n b e = subst (λ (t : Bool). OnTrue t (Lacking → ⊥) × OnFalse t Lacking) (sym e) (tt, n)
some_or_not (Some x) Found Lacking apart f n b e = subst (λ (t : Bool). OnTrue t (Lacking → ⊥) × OnFalse t Lacking) (sym e) (apart x f, tt)

-- a copy of what is borrowed is there where it is
pub copied_some : {X : Type 0} (o : Option (Bor X)) → is_some (option_copied o) ≡ is_some o
copied_some None = refl
copied_some (Some x) = refl
