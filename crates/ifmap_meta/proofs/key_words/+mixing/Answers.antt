use Rattle.std.proofs.Common.{◌≡◌, List, ap, subst, arith, length, get_or}
use Rattle.ifmap_elem.specs.declared.elements.Child.{Child}
use Rattle.ifmap_meta.specs.KeyWords.{parts_of_child}
use Rattle.ifmap_meta.proofs.Mixing.{mixed_more}
use Rattle.ifmap_meta.proofs.key_words.+mixing.Goals as goal

pub mix_children-loop-child-preserved : goal.mix_children-loop-child-preserved
mix_children-loop-child-preserved t c =
    let i = c.loop-child.child-index in
    let x : Child = c.child-item.result in
    let all : c.as_slice-child-items.result.now ≡ c.args.children.now = c.as_slice-child-items.ensures in
    mixed_more parts_of_child c.args.word c.args.children.now i x c.loop-child.mixed c.mix_child-mixed.result
    (omega (arith, c.loop-child-test.true, c.loop-child.auto.child-index-end, ap length all))
    (subst (λ (ys : List Child). x ≡ get_or ys i x) all c.child-item.is) c.loop-child.invariant c.mix_child-mixed.ensures
