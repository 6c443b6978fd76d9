use Rattle.std.proofs.Common.{ℕ, ◌≤◌, [], List, All, length}
use Rattle.ifmap_region.specs.declared.flips.Flip.{Flip}
use Rattle.ifmap_region.specs.Layers.{Layer, with_rows, IsUncut, IsBeingCut}
use Rattle.ifmap_region.proofs.lose.queue_seeds.Given as goal

abbrev pub invariant-loop-number : goal.invariant-loop-number
invariant-loop-number l = record {
  low : All (λ s. l.level ≤ s.0) l.initial.seeds → All (λ s. l.level ≤ s.0) l.seeds;
  keeps : (layer : Layer) (flips : List Flip) (start before spent : ℕ) (gone : List ℕ) → IsUncut layer flips start
      → IsBeingCut (with_rows layer l.initial.rows.entries) flips start gone l.initial.seeds l.level l.initial.queue.items [] before spent
      → IsBeingCut (with_rows layer l.rows.entries) flips start gone l.seeds l.level l.queue.items [] before spent;
}

abbrev pub decreases-loop-number : goal.decreases-loop-number
decreases-loop-number l = length l.seeds
