use Rattle.std.proofs.Common.{ℕ, ◌<◌, ◌≤◌, ◌-◌, ◌^◌, [], All, Contains}
use Rattle.std.specs.Prelude.{vec_len}
use Rattle.ifmap_region.specs.Layers.{layer_of, marks, MayFall, Falls, Charges}
use Rattle.ifmap_region.specs.Marks.{AddsMarks}
use Rattle.ifmap_region.proofs.spread.spread.Given as goal

abbrev pub invariant-loop-level : goal.invariant-loop-level
invariant-loop-level g l =
    let G = g.G.LinkSource in
    let layer = layer_of G.seen l.basis in
    let then = layer l.initial.rows.entries in
    let now = layer l.rows.entries in
    record {
      rows : AddsMarks l.initial.rows.entries l.rows.entries;
      fits : 0 < vec_len l.next → l.floor < 2 ^ 32;
      above : All (λ s. l.floor ≤ s.0) l.waiting;
      falls : (start : ℕ) → MayFall then start (λ k v. Contains l.fn.seeds.items (k, v)) → Falls now start l.waiting l.floor l.next.items
          [];
      charged : (start : ℕ) → MayFall then start (λ k v. Contains l.fn.seeds.items (k, v))
          → Charges now start (marks then) l.floor l.initial.steps l.steps l.next.items;
    }

abbrev pub decreases-loop-level : goal.decreases-loop-level
decreases-loop-level g l = 2 ^ 32 - l.floor
