use Rattle.std.proofs.Common.{◌≡◌, take}
use Rattle.ifmap_folds.specs.Notes.{told_notes}
use Rattle.ifmap_delta.proofs.noting.told_entries.Given as goal

abbrev pub invariant-loop-i : goal.invariant-loop-i
invariant-loop-i g l = l.told.items ≡ told_notes (g.D.View.rows l.after.view.now) l.after.search.now (take l.i l.notes)
