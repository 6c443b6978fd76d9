use Rattle.ifmap_graph.proofs.Touching.{Touching}
use Rattle.ifmap_graph.proofs.linking.touch_slots.Given as goal

abbrev pub invariant-loop-at : goal.invariant-loop-at
invariant-loop-at l = Touching l.slots l.initial.links.items l.touched l.ways.items l.links.items l.at-index
