use Rattle.ifmap_graph.specs.Out.{items_changed}
use Rattle.ifmap_graph.proofs.Waits.{Waiting}
use Rattle.ifmap_graph.proofs.waiting.wait_for.Given as goal

abbrev pub invariant-loop-change : goal.invariant-loop-change
invariant-loop-change l = Waiting (items_changed l.changes) l.initial.shelves l.shelves l.change-index
