use Rattle.std.proofs.Common.{◌≡◌, ℕ, Some, true, take}
use Rattle.ifmap_region.specs.Flips.{IsFlipped}
use Rattle.ifmap_region.specs.Hiding.{hides}
use Rattle.ifmap_region.specs.Marks.{mark_of, HasMarkedEnd}
use Rattle.ifmap_region.proofs.mid.near_pairs.Given as goal

abbrev pub invariant-loop-flip : goal.invariant-loop-flip
invariant-loop-flip l = record {
  only : (v w : ℕ) → hides l.pairs v w ≡ true → IsFlipped (take l.flip-index l.flips) true v w;
  near : (v w : ℕ) → hides l.pairs v w ≡ true → HasMarkedEnd l.marks.entries v w;
  each : (v w k : ℕ) → IsFlipped (take l.flip-index l.flips) true v w → mark_of l.marks.entries v ≡ Some k → hides l.pairs v w ≡ true;
  turned : (v w : ℕ) → hides l.pairs v w ≡ true → hides l.pairs w v ≡ true;
}
