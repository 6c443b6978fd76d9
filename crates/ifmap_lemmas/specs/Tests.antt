-- Tests that answer alike, those that exclude one another, and what they tell of two numbers.
use Rattle.std.proofs.Common.{◌≡◌, ◌==◌, ◌≤◌, ℕ, Bool, true, false, refl, sym, ◌∙◌, inl, inr, arith}
use Rattle.std.proofs.lemmas.Bool.{cases_eq, cases_order, eq-eqb, ne_eqb}
use Rattle.std.proofs.lemmas.Bool.Decides.{nat_tests}
use Rattle.std.specs.Ordering.{is_gt, is_lt, nat_cmp, ordering_then}
use Rattle.std.specs.Prelude.{◌↔◌}
use Rattle.std.specs.declared.cmp.Ordering.{Ordering}
use Rattle.std.specs.declared.cmp.Ordering.TheVariants.{Less, Equal, Greater}

-- whether two numbers are one does not depend on which comes first
pub equal_turned : (a b : ℕ) → (a == b) ≡ (b == a)
equal_turned a b = elim (cases_eq a b) [
  | inl same ↦ eq-eqb a b same ∙ sym (eq-eqb b a (sym same))
  | inr other ↦ ne_eqb a b other ∙ sym (ne_eqb b a (λ e. other (sym e)))
]

-- tests that tell one thing
pub same_test : (b c : Bool) (P : Type 0) → (b ≡ true ↔ P) → (c ≡ true ↔ P) → b ≡ c
same_test true true P f g = refl
same_test true false P f g = let e : false ≡ true = g.1 (f.0 refl) in cc
same_test false true P f g = let e : false ≡ true = f.1 (g.0 refl) in cc
same_test false false P f g = refl

-- what is less is not greater
pub less_not_greater : (o : Ordering) → is_lt o ≡ true → is_gt o ≡ false
less_not_greater Less e = refl
less_not_greater Equal e = refl
less_not_greater Greater e = cc

-- of two numbers that are compared before anything else, the one that comes first is not the greater
pub not_above_before : (a b : ℕ) (o : Ordering) → is_lt (ordering_then (nat_cmp a b) o) ≡ true → a ≤ b
not_above_before a b o e = elim (cases_order a b) [
  | inl same ↦ omega (arith, same)
  | inr apart ↦ elim apart [
    | inl less ↦ omega (arith, less)
    | inr more ↦
        let greater : nat_cmp a b ≡ Greater = grind (arith, nat_tests, more) in
        let bad : false ≡ true = rw greater at e in cc
  ]
]

pub not_below_after : (a b : ℕ) (o : Ordering) → is_gt (ordering_then (nat_cmp a b) o) ≡ true → b ≤ a
not_below_after a b o e = elim (cases_order a b) [
  | inl same ↦ omega (arith, same)
  | inr apart ↦ elim apart [
    | inl less ↦
        let lower : nat_cmp a b ≡ Less = grind (arith, nat_tests, less) in
        let bad : false ≡ true = rw lower at e in cc
    | inr more ↦ omega (arith, more)
  ]
]
