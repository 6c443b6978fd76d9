use Rattle.ifmap_graph.proofs.Returning.{Returning}
use Rattle.ifmap_graph.proofs.ways.restore_all.Given as goal

abbrev pub invariant-loop-i : goal.invariant-loop-i
invariant-loop-i g l = Returning l.initial.ways.items l.initial.lists.items l.ways.items l.lists.items l.i
