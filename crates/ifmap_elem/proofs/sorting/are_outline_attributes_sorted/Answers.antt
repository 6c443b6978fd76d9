use Rattle.ifmap_elem.specs.laws.AttributeOrder.{sorted_already}
use Rattle.ifmap_elem.proofs.sorting.are_outline_attributes_sorted.Goals as goal

pub returns : goal.returns
returns c = sorted_already c.args.attributes.now c.is_sorted.result c.is_sorted.ensures.by_index
