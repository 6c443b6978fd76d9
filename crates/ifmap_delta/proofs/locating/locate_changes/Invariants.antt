use Rattle.std.proofs.Common.{take}
use Rattle.ifmap_delta.specs.Located.{AreLocated}
use Rattle.ifmap_delta.specs.SeenViews.{view_seen}
use Rattle.ifmap_delta.proofs.locating.locate_changes.Given as goal

abbrev pub invariant-loop-change : goal.invariant-loop-change
invariant-loop-change g l =
    AreLocated (view_seen g.G.View.rows g.G.View.id_at g.G.View.links l.graph)
    (view_seen g.D.View.rows g.D.View.id_at g.D.View.links l.draft)
    (take l.change-index l.changes) l.located.items
