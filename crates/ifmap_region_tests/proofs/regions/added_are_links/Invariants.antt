use Rattle.std.proofs.Common.{ℕ, true, take, length}
use Rattle.ifmap_region.specs.Flips.{IsFlipped}
use Rattle.ifmap_region.specs.Links.{Linked}
use Rattle.ifmap_region_tests.specs.Pairs.{far_end_at}
use Rattle.ifmap_region_tests.proofs.regions.added_are_links.Given as goal

abbrev pub invariant-loop-flip : goal.invariant-loop-flip
invariant-loop-flip l = (v w : ℕ) → IsFlipped (take l.flip-index l.flips) true v w
    → Linked (λ _. length l.links) (far_end_at l.links) v w
