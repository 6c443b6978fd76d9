use Rattle.std.proofs.Common.{◌≡◌, take}
use Rattle.ifmap_elem.proofs.elements.+copying.Given as goal

abbrev pub invariant-copy_children-loop-child : goal.invariant-copy_children-loop-child
invariant-copy_children-loop-child l = l.made.items ≡ take l.child-index l.children
