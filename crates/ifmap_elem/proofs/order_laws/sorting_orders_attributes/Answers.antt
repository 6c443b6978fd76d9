use Rattle.ifmap_elem.specs.laws.AttributeOrder.{sorted_permutation, sorted_rises}
use Rattle.ifmap_elem.proofs.order_laws.sorting_orders_attributes.Goals as goal

pub returns : goal.returns
returns c = record { permutation = sorted_permutation; rising = sorted_rises }
