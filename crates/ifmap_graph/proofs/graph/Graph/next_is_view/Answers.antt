use Rattle.slab.specs.Slab.{get}
use Rattle.ifmap_graph.specs.Inside.{links_at}
use Rattle.ifmap_graph.specs.Sides.{list_next}
use Rattle.ifmap_graph.proofs.Insides.{shown_view}
use Rattle.ifmap_graph.proofs.graph.Graph.next_is_view.Goals as goal

pub returns : goal.returns
returns c =
    rw (← c.self.view_is)
    (shown_view c.self.inside.names (get c.self.inside.shelves.slots) c.self.inside.shelves.places.entries
    (links_at list_next c.self.inside.links.items) list_next c.self.invariant.placed c.self.invariant.used c.self.invariant.numbered
    c.self.invariant.pool
    c.self.invariant.keys c.self.invariant.next_side c.bytes_tell_identifiers_apart.ensures)
