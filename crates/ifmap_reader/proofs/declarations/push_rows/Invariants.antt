use Rattle.std.proofs.Common.{◌≡◌, ◌++◌, map}
use Rattle.ifmap_reader.specs.ReversedPaths.{lengthen}
use Rattle.ifmap_reader.proofs.declarations.push_rows.Given as goal

abbrev pub invariant-loop-row : goal.invariant-loop-row
invariant-loop-row l = l.rows.items ≡ l.initial.rows.items ++ map (lengthen l.above) l.yielded
