use Rattle.std.proofs.Common.{take}
use Rattle.std.specs.List.{AllByRecursion}
use Rattle.ifmap_graph.specs.Out.{items_changed}
use Rattle.ifmap_graph.proofs.Waits.{Few}
use Rattle.ifmap_graph.proofs.waiting.can_wait.Given as goal

abbrev pub invariant-loop-change : goal.invariant-loop-change
invariant-loop-change l = AllByRecursion (Few l.shelves) (take l.change-index (items_changed l.changes))
