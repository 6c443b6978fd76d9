use Rattle.std.proofs.Common.{ap, sym, ◌∙◌}
use Rattle.slab.specs.Slab.{get}
use Rattle.ifmap_graph.specs.Sides.{list_next}
use Rattle.ifmap_graph.proofs.Insides.{rows_shown}
use Rattle.ifmap_view.specs.Rows.{stored_on}
use Rattle.ifmap_graph.proofs.graph.Graph.next_at.Goals as goal

pub next_at-requires : goal.next_at-requires
next_at-requires c = c.self.invariant.placed

pub returns : goal.returns
returns c =
    rw (← c.self.view_is)
    (c.next_at.ensures ∙ ap (stored_on c.args.item.now)
    (sym (rows_shown list_next (get c.self.inside.shelves.slots) c.self.inside.shelves.places.entries)))
