use Rattle.std.proofs.Common.{take}
use Rattle.ifmap_delta.specs.Located.{AreNotesLocated}
use Rattle.ifmap_delta.specs.SeenViews.{view_seen}
use Rattle.ifmap_delta.proofs.locating.locate_notes.Given as goal

abbrev pub invariant-loop-note : goal.invariant-loop-note
invariant-loop-note g l =
    AreNotesLocated (view_seen g.V.View.rows g.V.View.id_at g.V.View.links l.view) (take l.note-index l.notes) l.located.items
