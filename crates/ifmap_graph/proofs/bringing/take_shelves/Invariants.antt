use Rattle.ifmap_graph.specs.Out.{items_changed}
use Rattle.ifmap_graph.proofs.Flags.{Taking}
use Rattle.ifmap_graph.proofs.bringing.take_shelves.Given as goal

abbrev pub invariant-loop-i : goal.invariant-loop-i
invariant-loop-i l = Taking (items_changed l.changes) l.fresh l.initial.names l.initial.shelves l.names l.shelves l.i
