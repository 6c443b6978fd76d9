use Rattle.ifmap_graph.proofs.Going.{Going}
use Rattle.ifmap_graph.proofs.ways.accept_all.Given as goal

abbrev pub invariant-loop-i : goal.invariant-loop-i
invariant-loop-i g l = Going l.initial.ways.items l.initial.lists.items l.ways.items l.lists.items l.i
