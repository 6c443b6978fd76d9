use Rattle.std.proofs.Common.{◌≡◌, map}
use Rattle.ifmap_reader.specs.ReversedPaths.{reverse_path}
use Rattle.ifmap_reader.proofs.declarations.ReversedDeclarations.into_declared.Given as goal

abbrev pub invariant-loop-row : goal.invariant-loop-row
invariant-loop-row l = l.made.items ≡ map (reverse_path l.above.items) l.yielded
