use Rattle.std.proofs.Common.{◌∙◌, ap, length, arith}
use Rattle.std.proofs.lemmas.List.{take_all}
use Rattle.ifmap_elem.specs.Arranged.{sort_attributes}
use Rattle.ifmap_elem.specs.laws.AttributeOrder.{sorted_references}
use Rattle.ifmap_elem.proofs.sorting.outline_attributes_in_order.Goals as goal

pub returns : goal.returns
returns c =
    sorted_references c.loop-attribute.rising.items c.sort_unstable.new.self.items c.sort_unstable.ensures.permutation
    c.sort_unstable.ensures.sorted
    ∙ ap sort_attributes (c.loop-attribute.invariant ∙ take_all c.loop-attribute.attribute-index c.args.attributes.now
    (omega (arith, c.loop-attribute-test.false, ap length c.as_slice-attribute-items.ensures)))
