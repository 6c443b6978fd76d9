use Rattle.std.proofs.Common.{◌≡◌, ◌++◌}
use Rattle.ifmap_reader.proofs.scoping.rows_of.Given as goal

abbrev pub invariant-loop-row : goal.invariant-loop-row
invariant-loop-row l = l.rows.items ++ l.row-iterator ≡ l.fn.spaces.entries
