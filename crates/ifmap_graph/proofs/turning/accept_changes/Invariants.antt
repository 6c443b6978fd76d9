use Rattle.ifmap_graph.specs.Out.{items_changed}
use Rattle.ifmap_graph.proofs.Accepting.{Accepting}
use Rattle.ifmap_graph.proofs.turning.accept_changes.Given as goal

abbrev pub invariant-loop-i : goal.invariant-loop-i
invariant-loop-i l = Accepting (items_changed l.changes) l.initial.shelves l.lists.items l.shelves l.i
