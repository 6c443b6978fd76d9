use Rattle.std.proofs.Common.{◌≡◌, ◌<◌, List, ap, sym, ◌∙◌, subst, arith, length, get_or}
use Rattle.ifmap_elem.specs.declared.elements.Attribute.{Attribute}
use Rattle.ifmap_meta.proofs.Mixing.{content_mixed, stamp_passed}
use Rattle.ifmap_meta.proofs.key_words.mix_content.Goals as goal
use Rattle.ifmap_meta.proofs.key_words.mix_content.Goals.{then-not-is_stamp, else-not-is_stamp}

pub loop-attribute-preserved : goal.loop-attribute-preserved
loop-attribute-preserved c =
    let i = c.loop-attribute.attribute-index in
    let x : Attribute = c.attribute-item.result in
    let all : c.as_slice-attribute-items.result.now ≡ c.args.attributes.now = c.as_slice-attribute-items.ensures in
    let low : i < length c.args.attributes.now =
    omega (arith, c.loop-attribute-test.true, c.loop-attribute.auto.attribute-index-end, ap length all) in
    let at : x ≡ get_or c.args.attributes.now i x = subst (λ (ys : List Attribute). x ≡ get_or ys i x) all c.attribute-item.is in
    elim c.if-not-is_stamp.branch [
      | then-not-is_stamp w ↦
          content_mixed c.args.word c.args.attributes.now i x c.loop-attribute.mixed c.if-not-is_stamp.mixed low at
          c.loop-attribute.invariant (sym c.is_stamp.ensures ∙ w.if-not-is_stamp.true) (w.mixed-is ∙ w.mix_attribute-mixed.ensures)
      | else-not-is_stamp w ↦
          stamp_passed c.args.word c.args.attributes.now i x c.loop-attribute.mixed c.if-not-is_stamp.mixed low at
          c.loop-attribute.invariant (sym c.is_stamp.ensures ∙ w.if-not-is_stamp.false) w.mixed-is
    ]
