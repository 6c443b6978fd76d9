use Rattle.std.proofs.Common.{◌≡◌, take, map}
use Rattle.ifmap_elem.proofs.sorting.outline_attributes_in_order.Given as goal

abbrev pub invariant-loop-attribute : goal.invariant-loop-attribute
invariant-loop-attribute l = map (λ a. a.now) l.rising.items ≡ take l.attribute-index l.attributes
