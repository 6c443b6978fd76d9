use Rattle.std.proofs.Common.{◌≡◌, map, take}
use Rattle.ifmap_elem.specs.Building.{as_children}
use Rattle.ifmap_writing.specs.RequestElements.{publish_element}
use Rattle.ifmap_writing.proofs.operations.publish_children.Given as goal

abbrev pub invariant-loop-op : goal.invariant-loop-op
invariant-loop-op l = l.children.items ≡ as_children (map (publish_element l.spaces) (take l.op-index l.ops))
