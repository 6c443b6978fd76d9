use Rattle.std.proofs.Common.{◌≡◌, List, ap, subst, arith, length, get_or}
use Rattle.ifmap_elem.specs.declared.elements.Attribute.{Attribute}
use Rattle.ifmap_meta.specs.KeyWords.{attribute_parts}
use Rattle.ifmap_meta.proofs.Mixing.{mixed_more}
use Rattle.ifmap_meta.proofs.key_words.mix_attributes.Goals as goal

pub loop-attribute-preserved : goal.loop-attribute-preserved
loop-attribute-preserved c =
    let i = c.loop-attribute.attribute-index in
    let x : Attribute = c.attribute-item.result in
    let all : c.as_slice-attribute-items.result.now ≡ c.args.attributes.now = c.as_slice-attribute-items.ensures in
    mixed_more attribute_parts c.args.word c.args.attributes.now i x c.loop-attribute.mixed c.mix_attribute-mixed.result
    (omega (arith, c.loop-attribute-test.true, c.loop-attribute.auto.attribute-index-end, ap length all))
    (subst (λ (ys : List Attribute). x ≡ get_or ys i x) all c.attribute-item.is) c.loop-attribute.invariant c.mix_attribute-mixed.ensures
