use Rattle.std.proofs.Common.{◌+◌, sym, subst, take}
use Rattle.ifmap_delta.specs.Located.{AreLocated, IsLocatedTwice}
use Rattle.ifmap_delta.specs.SeenViews.{view_seen}
use Rattle.ifmap_delta.proofs.InStep.{each_more}
use Rattle.ifmap_delta.proofs.locating.locate_changes.Goals as goal

pub loop-change-preserved : goal.loop-change-preserved
loop-change-preserved g c =
    let old = view_seen g.G.View.rows g.G.View.id_at g.G.View.links c.args.graph.now
    in let new = view_seen g.D.View.rows g.D.View.id_at g.D.View.links c.args.draft.now
    in let changes = c.args.changes.now
    in subst (λ ls. AreLocated old new (take (c.loop-change.change-index + 1) changes) ls) (sym c.in_ok-push.ensures.items)
    (each_more (λ d l. IsLocatedTwice old new d.item l) changes c.loop-change.located.items c.loop-change.change-index
    c.change-item.result c.locate_change.result c.loop-change.invariant c.loop-change-test.true c.change-item.is
    c.locate_change.ensures)
