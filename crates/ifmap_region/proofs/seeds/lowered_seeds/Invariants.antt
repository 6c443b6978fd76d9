use Rattle.std.proofs.Common.{true, take}
use Rattle.ifmap_region.specs.Marks.{mark_of, mark_over}
use Rattle.ifmap_region.specs.Seeds.{Lowers, SeedsAlong}
use Rattle.ifmap_region.proofs.seeds.lowered_seeds.Given as goal

abbrev pub invariant-loop-flip : goal.invariant-loop-flip
invariant-loop-flip g l =
    SeedsAlong (take l.flip-index l.flips) true (Lowers (g.G.LinkSource.seen l.basis.graph.now).terminal l.basis.top
    (mark_over l.rows.entries (mark_of
    l.basis.base.now.entries))) l.seeds.items
