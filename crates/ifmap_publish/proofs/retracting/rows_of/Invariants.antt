use Rattle.std.proofs.Common.{◌≡◌, take}
use Rattle.std.specs.List.{filter}
use Rattle.ifmap_publish.specs.Retract.{is_of}
use Rattle.ifmap_publish.proofs.retracting.rows_of.Given as goal

abbrev pub invariant-loop-row : goal.invariant-loop-row
invariant-loop-row l = l.list.items ≡ filter (is_of l.who) (take l.row-index l.rows)
