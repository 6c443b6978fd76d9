use Rattle.std.proofs.Common.{◌-◌}
use Rattle.ifmap_session.proofs.Trees.{Level}
use Rattle.ifmap_session.proofs.last_moments.due_nodes.Given as goal

abbrev pub invariant-loop-first : goal.invariant-loop-first
invariant-loop-first l = Level l.width l.tree l.limit l.nodes.items l.first

abbrev pub decreases-loop-first : goal.decreases-loop-first
decreases-loop-first l = l.width - l.first
