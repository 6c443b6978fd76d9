use Rattle.ifmap_session.proofs.Trees.{Walks}
use Rattle.ifmap_session.proofs.last_moments.set_last_moment.Given as goal

abbrev pub invariant-loop-node : goal.invariant-loop-node
invariant-loop-node l = Walks l.width l.place l.last_moment l.fn.tree.items l.tree.items l.node

abbrev pub decreases-loop-node : goal.decreases-loop-node
decreases-loop-node l = l.node
