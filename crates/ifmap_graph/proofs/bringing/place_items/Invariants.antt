use Rattle.ifmap_graph.specs.Bringing.{graph_fields}
use Rattle.ifmap_graph.specs.Out.{items_changed}
use Rattle.ifmap_graph.proofs.Grown.{Placing}
use Rattle.ifmap_graph.proofs.bringing.place_items.Given as goal

abbrev pub invariant-loop-change : goal.invariant-loop-change
invariant-loop-change l =
    Placing (items_changed l.changes) (graph_fields l.initial.names l.initial.shelves l.initial.links.items)
    (graph_fields l.names l.shelves l.links.items) l.fresh.items l.change-index
