use Rattle.std.proofs.Common.{ap, sym, ◌∙◌}
use Rattle.slab.specs.Slab.{get}
use Rattle.ifmap_graph.specs.Sides.{list_now}
use Rattle.ifmap_graph.proofs.Insides.{rows_shown}
use Rattle.ifmap_view.specs.Rows.{stored_on}
use Rattle.ifmap_graph.proofs.graph.GraphView.stored_at.Goals as goal

pub rows_at-requires : goal.rows_at-requires
rows_at-requires c = c.self.invariant.placed

pub returns : goal.returns
returns c =
    rw (← c.self.view_is)
    (c.rows_at.ensures ∙ ap (stored_on c.args.item.now)
    (sym (rows_shown list_now (get c.self.inside.shelves.slots) c.self.inside.shelves.places.entries)))
