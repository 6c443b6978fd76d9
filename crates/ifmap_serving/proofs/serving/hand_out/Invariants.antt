use Rattle.std.proofs.Common.{◌≡◌, ◌≤◌, ◌<◌, ℕ, length, slice_index_or}
use Rattle.ifmap_hall.specs.Passes.{IsOf, view_of}
use Rattle.ifmap_serving.specs.declared.stands.Stand.{Stand}
use Rattle.ifmap_serving.specs.Stands.{IsReadied, OpensServer}
use Rattle.ifmap_serving.proofs.serving.hand_out.Given as goal

abbrev pub invariant-loop-stand : goal.invariant-loop-stand
invariant-loop-stand g l =
    IsOf l.hall l.pass × OpensServer (view_of l.pass) × (l.place ≡ l.stand-index) × (length l.stand-items ≡ length l.fn.stands)
    × ((k : ℕ) (d : Stand g.row.D.Denot g.row.G.Denot) → k < l.stand-index
    → IsReadied l.hall k (slice_index_or l.fn.stands k d) (slice_index_or l.stand-items k d))
    × ((k : ℕ) (d : Stand g.row.D.Denot g.row.G.Denot) → l.stand-index ≤ k → k < length l.stand-items
    → slice_index_or l.stand-items k d ≡ slice_index_or l.fn.stands k d)
