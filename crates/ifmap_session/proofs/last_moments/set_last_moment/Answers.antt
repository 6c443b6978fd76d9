use Rattle.ifmap_session.proofs.Trees.{walk_ends, walk_on}
use Rattle.ifmap_session.proofs.last_moments.set_last_moment.Goals as goal

pub loop-node-preserved : goal.loop-node-preserved
loop-node-preserved c =
    walk_on c.args.width c.args.place c.args.last_moment c.args.tree.now.items c.loop-node.tree.items c.loop-node.node
    c.lesser_child.result c.loop-node.invariant c.loop-node-test.true (rw c.deref.ensures.value at c.lesser_child.ensures)

pub returns : goal.returns
returns c =
    walk_ends c.args.width c.args.place c.args.last_moment c.args.tree.now.items c.loop-node.tree.items c.loop-node.node
    c.loop-node.invariant
    c.loop-node-test.false
