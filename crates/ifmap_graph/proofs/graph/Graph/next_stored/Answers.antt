use Rattle.std.proofs.Common.{ap, sym, ◌∙◌}
use Rattle.slab.specs.Slab.{get}
use Rattle.ifmap_graph.specs.Inside.{links_at}
use Rattle.ifmap_graph.specs.Shelved.{list_at}
use Rattle.ifmap_graph.specs.Sides.{list_next}
use Rattle.ifmap_graph.proofs.Insides.{handle_of, live_by}
use Rattle.ifmap_graph.proofs.graph.Graph.next_stored.Goals as goal

pub index-requires : goal.index-requires
index-requires c =
    let q = rw (← c.self.view_is) at c.requires
    in live_by (get c.self.inside.shelves.slots) c.args.seen.at q.0 c.args.seen.other (c.self.invariant.next_side.listed.only q.0
    c.args.seen q.1).0

pub returns : goal.returns
returns c =
    rw (← c.self.view_is)
    (λ v h. c.list_next.ensures ∙ ap (list_at list_next) (sym c.index.ensures)
    ∙ handle_of c.self.inside.names (get c.self.inside.shelves.slots) c.self.inside.shelves.places.entries
    (links_at list_next c.self.inside.links.items) list_next c.self.invariant.placed c.self.invariant.used c.self.invariant.numbered
    c.self.invariant.pool
    c.self.invariant.keys c.self.invariant.next_side v c.args.seen h)
