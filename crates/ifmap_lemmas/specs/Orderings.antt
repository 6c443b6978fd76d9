-- Answers of comparisons: what a test of one says, and one after another.
use Rattle.std.specs.Prelude.{◌≡◌, true, false}
use Rattle.std.specs.Ordering.{is_eq, is_gt, is_le, is_lt, ordering_then, ordering_reverse}
use Rattle.std.specs.declared.cmp.Ordering.{Ordering}
use Rattle.std.specs.declared.cmp.Ordering.TheVariants.{Less, Equal, Greater}
use Rattle.std.proofs.Common.{◌⊎◌, inl, inr, refl, ap, sym, ◌∙◌}
use Rattle.std.specs.Cmp.{IsTotalOrder}

-- ---- what a test says

pub is_less : (r : Ordering) → is_lt r ≡ true → r ≡ Less
is_less Less e = refl
is_less Equal e = cc
is_less Greater e = cc

pub is_greater : (r : Ordering) → is_gt r ≡ true → r ≡ Greater
is_greater Less e = cc
is_greater Equal e = cc
is_greater Greater e = refl

pub less_differs : (r : Ordering) → is_lt r ≡ true → is_eq r ≡ false
less_differs Less e = refl
less_differs Equal e = cc
less_differs Greater e = refl

pub greater_differs : (r : Ordering) → is_le r ≡ false → is_eq r ≡ false
greater_differs Less e = refl
greater_differs Equal e = cc
greater_differs Greater e = refl

-- ---- one comparison after another

pub then_equal : (r : Ordering) → ordering_then r Equal ≡ r
then_equal Less = refl
then_equal Equal = refl
then_equal Greater = refl

pub then_then : (o p q : Ordering) → ordering_then o (ordering_then p q) ≡ ordering_then (ordering_then o p) q
then_then Less p q = refl
then_then Equal p q = refl
then_then Greater p q = refl

-- what comes after one that decides makes no difference
pub then_decided : (o r s : Ordering) → is_eq o ≡ false → ordering_then o r ≡ ordering_then o s
then_decided Less r s e = refl
then_decided Equal r s e = cc
then_decided Greater r s e = refl

pub then_where_equal : (r s t y : Ordering) → (r ≡ Equal → s ≡ ordering_then t y) → ordering_then r s ≡ ordering_then (ordering_then r t) y
then_where_equal Less s t y f = refl
then_where_equal Equal s t y f = f refl
then_where_equal Greater s t y f = refl

-- of two that are less together, the first is not greater
pub first_of_less : (r s : Ordering) → ordering_then r s ≡ Less → (r ≡ Less) ⊎ (r ≡ Equal)
first_of_less Less s e = inl refl
first_of_less Equal s e = inr refl
first_of_less Greater s e = cc

pub both_equal : (o p : Ordering) → ordering_then o p ≡ Equal → (o ≡ Equal) × (p ≡ Equal)
both_equal Less p e = cc
both_equal Equal p e = (refl, e)
both_equal Greater p e = cc

pub not_equal : (r : Ordering) → r ≡ Less → r ≡ Equal → ⊥
not_equal r e f = let q : Less ≡ Equal = sym e ∙ f in cc

-- ---- the other way round

pub eq_reversed : (r : Ordering) → is_eq (ordering_reverse r) ≡ is_eq r
eq_reversed Less = refl
eq_reversed Equal = refl
eq_reversed Greater = refl

module _ {X : Type 0} {order : X → X → Ordering} (total : IsTotalOrder order) where
  pub less_reversed : (x y : X) → order x y ≡ Less → order y x ≡ Greater
  less_reversed x y e = total.antisymm y x ∙ ap ordering_reverse e

  pub greater_reversed : (x y : X) → order x y ≡ Greater → order y x ≡ Less
  greater_reversed x y e = total.antisymm y x ∙ ap ordering_reverse e

  pub not_both : (x y : X) → order x y ≡ Less → order y x ≡ Less → ⊥
  not_both x y e f = let q : Greater ≡ Less = sym (less_reversed x y e) ∙ f in cc
