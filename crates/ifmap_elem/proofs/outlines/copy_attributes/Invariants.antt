use Rattle.std.proofs.Common.{◌≡◌, take}
use Rattle.ifmap_elem.proofs.outlines.copy_attributes.Given as goal

abbrev pub invariant-loop-attribute : goal.invariant-loop-attribute
invariant-loop-attribute l = l.made.items ≡ take l.attribute-index l.attributes
