-- How many steps it takes to tell a change: the sum of what each that is not skipped may take.
use Rattle.std.specs.Prelude.{◌≤◌, ℕ, Bool, true, false, List, [], ◌∷◌}
use Rattle.ifmap_delta.specs.Bounds.{IsWithinBound}
use Rattle.ifmap_delta.specs.SeenViews.{ViewSeen}
use Rattle.ifmap_standing.specs.declared.standing.Standing.{Standing}

module _ (old new : ViewSeen) where
  -- the steps rose by at most the bound of one; where it is skipped they did not rise
  abbrev pub IsWithinWhere : Bool → Standing → ℕ → ℕ → Type 0
  IsWithinWhere true x before after = after ≤ before
  IsWithinWhere false x before after =
      IsWithinBound old new x.subscription.search x.subscription.region.start before after

  -- by at most the sum of these
  abbrev pub IsWithinEach : List (Bool × Standing) → ℕ → ℕ → Type 0
  IsWithinEach [] before after = after ≤ before
  IsWithinEach (p ∷ pairs) before after =
      (middle : ℕ) × IsWithinWhere p.0 p.1 before middle × IsWithinEach pairs middle after
