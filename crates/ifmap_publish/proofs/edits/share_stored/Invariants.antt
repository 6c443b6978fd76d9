use Rattle.std.proofs.Common.{take}
use Rattle.ifmap_view.specs.Rows.{stored_on}
use Rattle.ifmap_publish.specs.Working.{AreKeyed}
use Rattle.ifmap_publish.proofs.edits.share_stored.Given as goal

-- those with the keys so far
abbrev pub invariant-loop-row : goal.invariant-loop-row
invariant-loop-row g l = AreKeyed (stored_on l.item (g.V.View.rows l.view)) (take l.row-index l.keys) l.found.items
