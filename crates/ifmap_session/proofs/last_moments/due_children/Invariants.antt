use Rattle.std.proofs.Common.{◌≡◌, filter, take}
use Rattle.ifmap_session.specs.LastMoments.{children_of, is_due}
use Rattle.ifmap_session.proofs.last_moments.due_children.Given as goal

abbrev pub invariant-loop-node : goal.invariant-loop-node
invariant-loop-node l = l.due.items ≡ filter (is_due l.tree l.limit) (children_of (take l.node-index l.nodes))
