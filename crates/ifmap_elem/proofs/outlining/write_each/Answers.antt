use Rattle.ifmap_elem.specs.declared.elements.Attribute.{Attribute}
use Rattle.std.proofs.Common.{◌∷◌, [], refl}
use Rattle.ifmap_elem.specs.Canonical.{attribute_bytes}
use Rattle.ifmap_elem.proofs.PieceLaws.{adds_no_piece, pieces_next, pieces_all}
use Rattle.ifmap_elem.proofs.outlining.write_each.Goals as goal

pub loop-attribute-init : goal.loop-attribute-init
loop-attribute-init c = adds_no_piece c.args.prefixes.now c.args.out.now.items

pub loop-attribute-preserved : goal.loop-attribute-preserved
loop-attribute-preserved c =
    pieces_next (λ (a : Attribute). a.name.space ∷ []) attribute_bytes _ _ _ _ _ _ _ _ _
    c.loop-attribute-test.true c.attribute-item.is c.loop-attribute.invariant c.in_ok-write_outline_attribute.ensures

pub returns : goal.returns
returns c =
    pieces_all (λ (a : Attribute). a.name.space) attribute_bytes _ _ _ _ _ _ _ c.loop-attribute-test.false refl c.loop-attribute.invariant
