use Rattle.std.proofs.Common.{◌∷◌, [], Bor}
use Rattle.ifmap_elem.specs.declared.elements.Attribute.{Attribute}
use Rattle.ifmap_elem.specs.Canonical.{attribute_bytes}
use Rattle.ifmap_elem.proofs.PieceLaws.{adds_no_piece, pieces_next, pieces_referred}
use Rattle.ifmap_elem.proofs.outlining.write_outline_attributes.Goals as goal

pub loop-attribute-init : goal.loop-attribute-init
loop-attribute-init c = adds_no_piece c.args.prefixes.now c.args.out.now.items

pub loop-attribute-preserved : goal.loop-attribute-preserved
loop-attribute-preserved c =
    pieces_next (λ (a : Bor Attribute). a.now.name.space ∷ []) (λ rows (a : Bor Attribute). attribute_bytes rows a.now) _ _ _ _ _ _ _ _ _
    c.loop-attribute-test.true c.attribute-item.is c.loop-attribute.invariant c.in_ok-write_outline_attribute.ensures

pub returns : goal.returns
returns c =
    pieces_referred _ _ _ _ _ _ _ _ c.loop-attribute-test.false
    c.deref-attribute-items.ensures.value c.in_ok-order.ensures c.loop-attribute.invariant
