-- The element that a list has at a place.
use Rattle.std.proofs.Common.{◌≡◌, ℕ, zero, suc, ◌<◌, List, [], ◌∷◌, length, refl, sym, arith}
use mathlib.Core.Option.{some, some-injective, some-ne-none}
use lib.ListN.{get_elem?}

module _ {V : Type 0} where
  -- the place is within the list
  pub place_within : (vs : List V) (i : ℕ) (v : V) → get_elem? vs i ≡ some v → i < length vs
  place_within [] i v e = absurd (some-ne-none v (sym e))
  place_within (x ∷ xs) zero v e = omega arith
  place_within (x ∷ xs) (suc i) v e = let r = place_within xs i v e in omega arith

  -- a list of one has it at its first place
  pub only_place : (x : V) (i : ℕ) (v : V) → get_elem? (x ∷ []) i ≡ some v → (i ≡ 0) × (x ≡ v)
  only_place x zero v e = (refl, some-injective x v e)
  only_place x (suc i) v e = absurd (some-ne-none v (sym e))
