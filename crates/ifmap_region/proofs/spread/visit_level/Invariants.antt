use Rattle.std.proofs.Common.{◌≡◌, ℕ, ◌+◌, ◌≤◌, ◌^◌, drop, Option, List, sum_by}
use Rattle.ifmap_region.specs.Layers.{layer_of, Falls, Charges}
use Rattle.ifmap_region.specs.Marks.{AddsMarks}
use Rattle.ifmap_region.proofs.spread.visit_level.Given as goal

abbrev pub invariant-loop-number : goal.invariant-loop-number
invariant-loop-number g l =
    let G = g.G.LinkSource in
    let layer = layer_of G.seen l.basis in
    let then = layer l.initial.rows.entries in
    let now = layer l.rows.entries in
    let rest = drop l.number-index l.now in
    record {
      rows : AddsMarks l.initial.rows.entries l.rows.entries;
      still : 2 ^ 32 ≤ l.level + 1 → l.queue.items ≡ l.initial.queue.items;
      falls : (start : ℕ) (seeds : List (ℕ × ℕ)) → Falls then start seeds l.level l.now l.initial.queue.items
          → Falls now start seeds l.level rest l.queue.items;
      charged : (start before : ℕ) (seeds : List (ℕ × ℕ)) (first : ℕ → Option ℕ)
          → Falls then start seeds l.level l.now l.initial.queue.items
          → Charges then start first (l.level + 1) before (l.initial.steps + sum_by now.graph.count l.now) l.initial.queue.items
          → Charges now start first (l.level + 1) before (l.steps + sum_by now.graph.count rest) l.queue.items;
    }
