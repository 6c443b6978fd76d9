-- Walks along links from a start, and the least number of links of a walk that ends in a place. Places are
-- whatever is linked: numbers here, identifiers for those who name what a number stands for.
use Rattle.std.specs.Prelude.{◌≡◌, ℕ, ◌<◌, ◌≤◌, Bool, false, Option, Some, ◌↔◌}
use Rattle.std.proofs.Common.{zero, suc}

-- links lead from place to place; no walk goes on from a terminal place
module _ {X : Type 0} (links : X → X → Type 0) (terminal : X → Bool) (start : X) where
  -- a walk of so many links that ends in a place: it begins at the start, and goes on by one link from a
  -- place that is not terminal
  pub data Walk : ℕ → X → Type 0 where
    begins : {v : X} → v ≡ start → Walk zero v
    goes_on : {k : ℕ} {u v : X} → Walk k u → terminal u ≡ false → links u v → Walk (suc k) v

  -- k is the least number of links of a walk that ends in v, where such a walk has at most `top` links
  pub record HasDepth (top : ℕ) (v : X) (k : ℕ) : Type 0 where
    pub within : k ≤ top
    pub walk : Walk k v
    pub least : (j : ℕ) → Walk j v → k ≤ j

  -- some walk of at most `top` links ends in the place
  abbrev pub IsReached : ℕ → X → Type 0
  IsReached top v = (k : ℕ) × (k ≤ top) × Walk k v

  -- a place has a mark exactly where it has a depth, and the mark is the depth
  abbrev pub AreDepths : ℕ → (X → Option ℕ) → Type 0
  AreDepths top mark = (v : X) (k : ℕ) → (mark v ≡ Some k) ↔ HasDepth top v k

-- a walk may go on from a place with this mark: it has fewer than `top` links, and the place is not terminal
pub record Expands {X : Type 0} (terminal : X → Bool) (top : ℕ) (mark : X → Option ℕ) (x : X) (d : ℕ) : Type 0 where
  pub marked : mark x ≡ Some d
  pub below : d < top
  pub passable : terminal x ≡ false
