use Rattle.std.proofs.Common.{◌∙◌, sym}
use Rattle.ifmap_filter.proofs.TextLaws.{another_child, no_child_more, one_child_more}
use Rattle.ifmap_filter.proofs.holding.has_text.Goals as goal

pub loop-child-preserved : goal.loop-child-preserved
loop-child-preserved c =
    c.loop-child.invariant
    ∙ one_child_more c.args.children.now c.loop-child.child-index c.child-item.result c.loop-child-test.true c.child-item.is
    c.loop-child.left.now c.in-Some.rest.now c.in-Some.ensures.found

pub returns-in_default : goal.returns-in_default
returns-in_default c =
    sym (c.loop-child.invariant
    ∙ another_child c.args.children.now c.loop-child.child-index c.child-item.result c.loop-child-test.true c.child-item.is
    c.loop-child.left.now c.in_default.ensures.none)

pub returns : goal.returns
returns c =
    c.is_empty.ensures
    ∙ sym (c.loop-child.invariant ∙ no_child_more c.args.children.now c.loop-child.child-index c.loop-child.left.now c.loop-child-test.false
    c.loop-child.auto.child-index-end)
