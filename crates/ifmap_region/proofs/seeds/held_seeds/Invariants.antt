use Rattle.std.proofs.Common.{false, take}
use Rattle.ifmap_region.specs.Marks.{mark_of, mark_over}
use Rattle.ifmap_region.specs.Seeds.{MayHold, SeedsAlong}
use Rattle.ifmap_region.proofs.seeds.held_seeds.Given as goal

abbrev pub invariant-loop-flip : goal.invariant-loop-flip
invariant-loop-flip g l =
    SeedsAlong (take l.flip-index l.flips) false (MayHold (g.G.LinkSource.seen l.basis.graph.now).terminal l.basis.top
    (mark_over l.rows.entries (mark_of
    l.basis.base.now.entries))) l.seeds.items
