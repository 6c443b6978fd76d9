use Rattle.std.proofs.Common.{take}
use Rattle.ifmap_prefixes.specs.Rows.{HasLast, index_at}
use Rattle.ifmap_prefixes.proofs.prefixes.Declarations.of.Given as goal

abbrev pub invariant-loop-index : goal.invariant-loop-index
invariant-loop-index l = HasLast (index_at l.last) (take l.index l.rows)
