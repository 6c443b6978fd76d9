-- Equivalences that are made of others.
use Rattle.std.proofs.Common.{◌≡◌, refl, Bool, true, false, ◌&&◌, ◌||◌, inl, inr}
use Rattle.std.proofs.lemmas.Bool.{cases_Bool}
use Rattle.std.specs.Cmp.{IsEquivalence}
use Rattle.std.proofs.Math.Bool.{or-true}

-- two equivalences, of which the second counts only where a test fails that the first does not see
module _ {X : Type 0} (T R : X → X → Bool) (S : X → Bool) (t : IsEquivalence T) (r : IsEquivalence R) (agree : (x y : X) → T x y ≡ true
    → S x ≡ S y) where
  guarded_refl : (x : X) → (T x x && (S x || R x x)) ≡ true
  guarded_refl x = rw (t.refl x, r.refl x) (or-true (S x))

  guarded_symm : (x y : X) → (T x y && (S x || R x y)) ≡ (T y x && (S y || R y x))
  guarded_symm x y =
      elim (cases_Bool (T x y)) [
        | inl same ↦ rw (← t.symm x y, same, agree x y same, r.symm x y) refl
        | inr differ ↦ rw (← t.symm x y, differ) refl
      ]

  guarded_congr : (x y z : X) → (T x y && (S x || R x y)) ≡ true → (T x z && (S x || R x z)) ≡ (T y z && (S y || R y z))
  guarded_congr x y z h =
      elim (cases_Bool (T x y)) [
        | inl same ↦
            elim (cases_Bool (S x)) [
              | inl one ↦ rw (t.congr x y z same, ← agree x y same, one) refl
              | inr many ↦
                  let alike : R x y ≡ true = rw (same, many) at h in
                  rw (t.congr x y z same, ← agree x y same, many, r.congr x y z alike) refl
            ]
        | inr differ ↦ let bad : false ≡ true = rw differ at h in cc
      ]

  pub guarded_equiv : IsEquivalence (λ x y. T x y && (S x || R x y))
  guarded_equiv = record { refl = guarded_refl; symm = guarded_symm; congr = guarded_congr }
