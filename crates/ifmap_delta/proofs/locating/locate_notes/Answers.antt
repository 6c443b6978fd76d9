use Rattle.std.proofs.Common.{◌+◌, sym, subst, take}
use Rattle.ifmap_delta.specs.Located.{AreNotesLocated, IsLocated}
use Rattle.ifmap_delta.specs.SeenViews.{view_seen}
use Rattle.ifmap_delta.proofs.InStep.{each_more}
use Rattle.ifmap_delta.proofs.locating.locate_notes.Goals as goal

pub loop-note-preserved : goal.loop-note-preserved
loop-note-preserved g c =
    let seen = view_seen g.V.View.rows g.V.View.id_at g.V.View.links c.args.view.now
    in let notes = c.args.notes.now
    in let here = subst (λ x. IsLocated seen x c.locate_item.result) c.item.ensures c.locate_item.ensures.located
    in subst (λ ls. AreNotesLocated seen (take (c.loop-note.note-index + 1) notes) ls) (sym c.in_ok-push.ensures.items)
    (each_more (λ n l. IsLocated seen n.item l) notes c.loop-note.located.items c.loop-note.note-index c.note-item.result
    c.locate_item.result c.loop-note.invariant c.loop-note-test.true c.note-item.is here)
