use Rattle.std.proofs.Common.{take}
use Rattle.ifmap_publish.specs.Working.{AreKeyed}
use Rattle.ifmap_publish.proofs.edits.share_keyed.Given as goal

-- those with the keys so far
abbrev pub invariant-loop-row : goal.invariant-loop-row
invariant-loop-row l = AreKeyed l.rows (take l.row-index l.keys) l.found.items
