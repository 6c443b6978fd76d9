use Rattle.std.proofs.Common.{◌≡◌, take}
use Rattle.ifmap_rows.proofs.index.word_rows.Given as goal

abbrev pub invariant-loop-row : goal.invariant-loop-row
invariant-loop-row l = l.worded.items ≡ take l.row-index l.rows
