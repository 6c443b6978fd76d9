use Rattle.std.proofs.Common.{take}
use Rattle.ifmap_reader.proofs.NameLaws.{Lacks}
use Rattle.ifmap_reader.proofs.differing.has_name.Given as goal

abbrev pub invariant-loop-attribute : goal.invariant-loop-attribute
invariant-loop-attribute l = Lacks l.name (take l.attribute-index l.attributes)
