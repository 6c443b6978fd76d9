use Rattle.ifmap_graph.proofs.Readying.{Dropping}
use Rattle.ifmap_graph.proofs.linking.drop_drafts.Given as goal

abbrev pub invariant-loop-way : goal.invariant-loop-way
invariant-loop-way l = Dropping l.initial.links.items l.ways l.links.items l.way-index
