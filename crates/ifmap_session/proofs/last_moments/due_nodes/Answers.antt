use Rattle.ifmap_session.proofs.Trees.{level_children, level_ends, level_next, root_within}
use Rattle.ifmap_session.proofs.last_moments.due_nodes.Goals as goal

pub push_due-requires : goal.push_due-requires
push_due-requires c = root_within c.args.width c.args.tree.now c.requires.tree c.requires.power

pub due_children-requires : goal.due_children-requires
due_children-requires c =
    rw c.deref.ensures.value (level_children c.args.width c.args.tree.now c.args.limit c.loop-first.first c.loop-first.nodes.items
    c.requires.tree c.loop-first.invariant c.loop-first-test.true)

pub loop-first-preserved : goal.loop-first-preserved
loop-first-preserved c =
    level_next c.args.width c.args.tree.now c.args.limit c.loop-first.first c.loop-first.nodes.items c.in_ok-nodes.nodes.items
    c.requires.tree c.loop-first.invariant c.loop-first-test.true (rw c.deref.ensures.value at c.in_ok-nodes.ensures)

pub returns : goal.returns
returns c =
    level_ends c.args.width c.args.tree.now c.args.limit c.loop-first.first c.loop-first.nodes.items c.loop-first.invariant
    c.loop-first-test.false
