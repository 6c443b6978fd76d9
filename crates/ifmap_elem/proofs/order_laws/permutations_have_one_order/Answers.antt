use Rattle.ifmap_elem.specs.laws.AttributeOrder.{one_order}
use Rattle.ifmap_elem.proofs.order_laws.permutations_have_one_order.Goals as goal

pub returns : goal.returns
returns c = one_order
