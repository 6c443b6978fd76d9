-- How many steps a change may take: so many times the links of what is near links that came and went.
use Rattle.std.specs.Prelude.{ℕ, ◌+◌, ◌⊎◌, length}
use Rattle.ifmap_region.specs.Bounds.{IsWithin}
use Rattle.ifmap_region.specs.Flips.{InBoth}
use Rattle.ifmap_region.specs.Near.{Near, IsTouched}
use Rattle.ifmap_search.specs.declared.searches.Search.{Search}
use Rattle.ifmap_delta.specs.SeenViews.{ViewSeen, Links, is_terminal_in}

-- how many steps a change may take for one number that is near and for each of its links
abbrev pub near_steps : ℕ
near_steps = 10

module _ (old new : ViewSeen) (s : Search) where
  -- a matching link is in just one of the two
  abbrev pub IsFlip : ℕ → ℕ → Type 0
  IsFlip v w = (Links old s v w × ¬ Links new s v w) ⊎ (Links new s v w × ¬ Links old s v w)

  -- the ends of flips, what is touched where the matching links of both stay, and the neighbours of that by matching
  -- links of either
  abbrev pub IsNear : ℕ → ℕ → Type 0
  IsNear start = Near (λ v. (w : ℕ) × IsFlip v w) (IsTouched (Links old s) (InBoth (Links old s) (Links new s))
      (Links new s) (is_terminal_in new s) start s.max_depth) (Links old s) (Links new s)

  -- one, and the links of a number before and after, those that do not match among them
  abbrev pub one_and_links : ℕ → ℕ
  one_and_links v = 1 + length (old.links v) + length (new.links v)

  -- the steps rose by at most so many times the sum of these over what is near
  abbrev pub IsWithinBound : ℕ → ℕ → ℕ → Type 0
  IsWithinBound start before after = IsWithin one_and_links (IsNear start) near_steps before after
