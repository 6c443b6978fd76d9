use Rattle.std.proofs.Common.{ap, ◌∙◌, sym}
use Rattle.slab.specs.Slab.{get}
use Rattle.ifmap_graph.specs.Counted.{count_links}
use Rattle.ifmap_graph.specs.Sides.{list_now}
use Rattle.ifmap_graph.proofs.Insides.{rows_shown}
use Rattle.ifmap_graph.proofs.graph.Graph.links.Goals as goal

pub returns : goal.returns
returns c =
    rw (← c.self.view_is)
    (c.links.ensures ∙ sym (ap count_links (rows_shown list_now (get c.self.inside.shelves.slots) c.self.inside.shelves.places.entries)))
