use Rattle.std.proofs.Common.{◌≡◌, ◌++◌, take}
use Rattle.ifmap_fresh.specs.Gathered.{entries_of}
use Rattle.ifmap_fresh.proofs.finding.add_entries.Given as goal

abbrev pub invariant-loop-row : goal.invariant-loop-row
invariant-loop-row l = l.entries.items ≡ l.initial.entries.items ++ entries_of l.filter l.fn.item (take l.row-index l.rows)
