use Rattle.std.proofs.Common.{◌≡◌, ℕ, ◌+◌, ◌≤◌, ◌^◌, drop, List}
use Rattle.ifmap_region.specs.declared.flips.Flip.{Flip}
use Rattle.ifmap_region.specs.Layers.{layer_of, IsUncut, IsBeingCut}
use Rattle.ifmap_region.proofs.lose.look_level.Given as goal

abbrev pub invariant-loop-number : goal.invariant-loop-number
invariant-loop-number g l =
    let G = g.G.LinkSource in
    let layer = layer_of G.seen l.basis in
    let then = layer l.initial.losses.rows.entries in
    let now = layer l.losses.rows.entries in
    record {
      still : 2 ^ 32 ≤ l.level + 1 → l.queue.items ≡ l.initial.queue.items;
      keeps : (flips : List Flip) (start before : ℕ) (seeds : List (ℕ × ℕ)) → IsUncut then flips start
          → IsBeingCut then flips start l.initial.losses.gone.items seeds l.level l.now l.initial.queue.items before l.initial.steps
          → IsBeingCut now flips start l.losses.gone.items seeds l.level (drop l.number-index l.now) l.queue.items before l.steps;
    }
