use Rattle.std.proofs.Common.{◌≡◌, map, take}
use Rattle.ifmap_prefixes.specs.InScope.{root_row}
use Rattle.ifmap_prefixes.proofs.rows.declare_rows.Given as goal

abbrev pub invariant-loop-row : goal.invariant-loop-row
invariant-loop-row l = l.declared.items ≡ map root_row (take l.row-index l.rows)
