use Rattle.std.proofs.Common.{ℕ, ◌≤◌, Option, [], All, length}
use Rattle.ifmap_region.specs.Layers.{layer_of, Falls, Charges}
use Rattle.ifmap_region.specs.Marks.{AddsMarks}
use Rattle.ifmap_region.proofs.spread.admit_seeds.Given as goal

abbrev pub invariant-loop-number : goal.invariant-loop-number
invariant-loop-number g l =
    let G = g.G.LinkSource in
    let layer = layer_of G.seen l.basis in
    let then = layer l.initial.rows.entries in
    let now = layer l.rows.entries in
    record {
      rows : AddsMarks l.initial.rows.entries l.rows.entries;
      low : All (λ s. l.level ≤ s.0) l.initial.seeds → All (λ s. l.level ≤ s.0) l.seeds;
      falls : (start : ℕ) → Falls then start l.initial.seeds l.level l.initial.queue.items []
          → Falls now start l.seeds l.level l.queue.items [];
      charged : (start before owed : ℕ) (first : ℕ → Option ℕ)
          → Falls then start l.initial.seeds l.level l.initial.queue.items []
          → Charges then start first l.level before owed l.initial.queue.items
          → Charges now start first l.level before owed l.queue.items;
    }

abbrev pub decreases-loop-number : goal.decreases-loop-number
decreases-loop-number g l = length l.seeds
