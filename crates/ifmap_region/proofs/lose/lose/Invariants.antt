use Rattle.std.proofs.Common.{ℕ, ◌<◌, ◌≤◌, ◌-◌, ◌^◌, [], All, List, false}
use Rattle.std.specs.Prelude.{vec_len}
use Rattle.ifmap_region.specs.declared.flips.Flip.{Flip}
use Rattle.ifmap_region.specs.Layers.{layer_of, MayHoldAt, IsUncut, IsBeingCut}
use Rattle.ifmap_region.specs.Seeds.{SeedsAlong}
use Rattle.ifmap_region.proofs.lose.lose.Given as goal

abbrev pub invariant-loop-level : goal.invariant-loop-level
invariant-loop-level g l =
    let G = g.G.LinkSource in
    let layer = layer_of G.seen l.basis in
    record {
      fits : 0 < vec_len l.next → l.floor < 2 ^ 32;
      above : All (λ s. l.floor ≤ s.0) l.waiting;
      keeps : (flips : List Flip) (start : ℕ) → IsUncut (layer []) flips start
          → SeedsAlong flips false (MayHoldAt (layer [])) l.fn.seeds.items
          → IsBeingCut (layer l.losses.rows.entries) flips start l.losses.gone.items l.waiting l.floor l.next.items [] l.initial.steps
          l.steps;
    }

abbrev pub decreases-loop-level : goal.decreases-loop-level
decreases-loop-level g l = 2 ^ 32 - l.floor
