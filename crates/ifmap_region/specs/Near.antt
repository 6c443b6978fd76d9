-- The numbers whose depth a change of links touches, and those near them.
use Rattle.std.specs.Prelude.{ℕ, Bool, true, false, ◌↔◌, ◌⊎◌, List}
use Rattle.ifmap_region.specs.declared.flips.Flip.{Flip}
use Rattle.ifmap_region.specs.Flips.{IsEnd, Mid, OldLinks}
use Rattle.ifmap_region.specs.Walks.{HasDepth}

-- whatever is the depth of the number over one graph is its depth over the other
abbrev pub SameDepth : (ℕ → ℕ → Type 0) → (ℕ → ℕ → Type 0) → (ℕ → Bool) → ℕ → ℕ → ℕ → Type 0
SameDepth before after terminal start top v = (k : ℕ) → HasDepth before terminal start top v k ↔ HasDepth after
    terminal start top v k

-- the depth differs; having none differs from having one
abbrev pub IsMoved : (ℕ → ℕ → Type 0) → (ℕ → ℕ → Type 0) → (ℕ → Bool) → ℕ → ℕ → ℕ → Type 0
IsMoved before after terminal start top v = ¬ SameDepth before after terminal start top v

-- the ends of flips, the touched numbers, and the neighbours of touched ones by links of either graph
pub data Near (IsFlipEnd IsTouched : ℕ → Type 0) (before after : ℕ → ℕ → Type 0) : ℕ → Type 0 where
  at_flip : {v : ℕ} → IsFlipEnd v → Near IsFlipEnd IsTouched before after v
  touched : {v : ℕ} → IsTouched v → Near IsFlipEnd IsTouched before after v
  beside : {u v : ℕ} → IsTouched u → before u v ⊎ after u v → Near IsFlipEnd IsTouched before after v

-- what is near, where links are removed, or added, and none else
abbrev pub NearOneWay : List Flip → Bool → (ℕ → ℕ → Type 0) → (ℕ → ℕ → Type 0) → (ℕ → Bool) → ℕ → ℕ → ℕ → Type 0
NearOneWay flips added before after terminal start top = Near (IsEnd flips added) (IsMoved before after terminal
    start top) before after

-- the depth differs between the old links and those that stay, or between these and the new ones
abbrev pub IsTouched : (ℕ → ℕ → Type 0) → (ℕ → ℕ → Type 0) → (ℕ → ℕ → Type 0) → (ℕ → Bool) → ℕ → ℕ → ℕ → Type 0
IsTouched old mid new terminal start top v = ¬ (SameDepth old mid terminal start top v
    × SameDepth mid new terminal start top v)

-- what is near the flips
abbrev pub NearFlips : (ℕ → ℕ → Type 0) → List Flip → (ℕ → Bool) → ℕ → ℕ → ℕ → Type 0
NearFlips new flips terminal start top = Near (λ v. IsEnd flips true v ⊎ IsEnd flips false v)
    (IsTouched (OldLinks new flips) (Mid new flips) new terminal start top) (OldLinks new flips) new
