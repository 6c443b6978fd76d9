-- Choices by tests, one in another, and options that are chosen, mapped or told by their values.
use Rattle.std.proofs.Common.{◌≡◌, ◌↔◌, inl, inr, refl, sym, Bool, true, false, cond, Option, None, Some, IsSome}
use Rattle.std.proofs.lemmas.Bool.{cases_Bool}
use Rattle.std.specs.Option.{option_map}

-- two choices in a row change places where they are not both made
pub swap_choices : {A : Type 0} (a b : Bool) (u v w : A) → (a ≡ true → b ≡ true → ⊥) → cond a u (cond b v w) ≡ cond b v (cond a u w)
swap_choices true true u v w h = absurd (h refl refl)
swap_choices true false u v w h = refl
swap_choices false true u v w h = refl
swap_choices false false u v w h = refl

-- a choice of one thing
pub same_either_way : {A : Type 0} (a : Bool) (u : A) → cond a u u ≡ u
same_either_way true u = refl
same_either_way false u = refl

-- the same choice again
pub same_choice : {A : Type 0} (a : Bool) (u v w : A) → cond a u w ≡ cond a u (cond a v w)
same_choice true u v w = refl
same_choice false u v w = refl

-- a choice of none, mapped
pub map_choice : {A B : Type 0} (f : A → B) (a : Bool) (o : Option A) → option_map f (cond a None o) ≡ cond a None (option_map f o)
map_choice f true o = refl
map_choice f false o = refl

-- what maps to none is none
pub map_none : {A B : Type 0} (f : A → B) (o : Option A) → option_map f o ≡ None → o ≡ None
map_none f None e = refl
map_none f (Some x) e = cc

-- where two map to one, both are there
pub some_alike : {X Y Z : Type 0} (f : X → Z) (g : Y → Z) (o : Option X) (q : Option Y) → option_map f o ≡ option_map g q → IsSome q
    → IsSome o
some_alike f g (Some x) q e h = refl
some_alike f g None (Some y) e h = cc
some_alike f g None None e h = h

-- options with the same values are one
pub same_option : {X : Type 0} (a b : Option X) → ((x : X) → (a ≡ Some x) ↔ (b ≡ Some x)) → a ≡ b
same_option None None f = refl
same_option None (Some x) f = (f x).1 refl
same_option (Some x) b f = sym ((f x).0 refl)

-- a test that fails where a wider one does
pub fails_too : (p q : Bool) → (p ≡ true → q ≡ true) → q ≡ false → p ≡ false
fails_too p q f e = elim (cases_Bool p) [ inl t ↦ let u : q ≡ true = f t in cc | inr t ↦ t ]
