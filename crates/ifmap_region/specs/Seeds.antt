-- Seeds: numbers and the levels at which they are looked at first.
use Rattle.std.specs.Prelude.{◌≡◌, ℕ, suc, ◌<◌, Bool, Option, Some, List, Contains}
use Rattle.ifmap_region.specs.declared.flips.Flip.{Flip}
use Rattle.ifmap_region.specs.Flips.{IsFlipped}
use Rattle.ifmap_region.specs.Walks.{Expands}

-- the level that follows the mark of a number from which a walk may go on
abbrev pub IsNext : (ℕ → Bool) → ℕ → (ℕ → Option ℕ) → ℕ → ℕ → Type 0
IsNext terminal top mark x k = (d : ℕ) × (k ≡ suc d) × Expands terminal top mark x d

-- a number may have held another by a link: the level that follows its mark is the mark of the other
abbrev pub MayHold : (ℕ → Bool) → ℕ → (ℕ → Option ℕ) → ℕ → ℕ → ℕ → Type 0
MayHold terminal top mark x y k = IsNext terminal top mark x k × (mark y ≡ Some k)

-- a number lowers another by a link: the level that follows its mark is below the mark of the other, which may have
-- none
abbrev pub Lowers : (ℕ → Bool) → ℕ → (ℕ → Option ℕ) → ℕ → ℕ → ℕ → Type 0
Lowers terminal top mark x y k = IsNext terminal top mark x k × ((j : ℕ) → mark y ≡ Some j → k < j)

-- there is a seed for an end of a flip of the kind exactly where the other end gives it that level
pub record SeedsAlong (flips : List Flip) (added : Bool) (Gives : ℕ → ℕ → ℕ
    → Type 0) (seeds : List (ℕ × ℕ)) : Type 0 where
  pub only : (k y : ℕ) → Contains seeds (k, y) → (x : ℕ) × IsFlipped flips added x y × Gives x y k
  pub each : (x y k : ℕ) → IsFlipped flips added x y → Gives x y k → Contains seeds (k, y)
