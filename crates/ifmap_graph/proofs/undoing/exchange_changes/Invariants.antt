use Rattle.ifmap_graph.specs.Out.{items_changed}
use Rattle.ifmap_graph.proofs.Restoring.{Restoring}
use Rattle.ifmap_graph.proofs.undoing.exchange_changes.Given as goal

abbrev pub invariant-loop-i : goal.invariant-loop-i
invariant-loop-i l = Restoring
    (items_changed l.changes) l.initial.lists.items l.initial.shelves l.lists.items l.shelves l.i
