use Rattle.ifmap_reader.proofs.NameLaws.{Onwards}
use Rattle.ifmap_reader.proofs.differing.few_differ.Given as goal

abbrev pub invariant-loop-i : goal.invariant-loop-i
invariant-loop-i l = Onwards l.attributes l.i
