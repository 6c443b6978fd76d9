use Rattle.ifmap_elem.specs.laws.AttributeOrder.{already_sorted}
use Rattle.ifmap_elem.proofs.sorting.are_sorted.Goals as goal

pub returns : goal.returns
returns c = already_sorted c.args.attributes.now c.is_sorted.result c.is_sorted.ensures.by_index
