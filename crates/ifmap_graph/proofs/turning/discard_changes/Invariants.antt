use Rattle.ifmap_graph.specs.Out.{items_changed}
use Rattle.ifmap_graph.proofs.Accepting.{Discarding}
use Rattle.ifmap_graph.proofs.turning.discard_changes.Given as goal

abbrev pub invariant-loop-i : goal.invariant-loop-i
invariant-loop-i l = Discarding (items_changed l.changes) l.initial.shelves l.shelves l.i
