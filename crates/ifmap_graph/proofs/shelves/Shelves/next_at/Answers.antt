use Rattle.std.proofs.Common.{IsSome, ap, sym, ◌∙◌}
use Rattle.slab.specs.Slab.{get}
use Rattle.ifmap_graph.specs.Shelved.{list_at}
use Rattle.ifmap_graph.specs.Sides.{list_next}
use Rattle.ifmap_graph.proofs.Finding.{entry_stores, unlisted_empty, live_at}
use Rattle.ifmap_graph.proofs.shelves.Shelves.next_at.Goals as goal

pub index-requires : goal.index-requires
index-requires c = live_at (λ n. IsSome (get c.args.self.now.slots n)) _ c.args.self.now.places.entries c.in-Some.at.now c.requires.live
    (sym c.in-Some.ensures.value)

pub returns-in-Some : goal.returns-in-Some
returns-in-Some c =
    c.list_next.ensures ∙ ap (list_at list_next) (sym c.index.ensures)
    ∙ entry_stores (λ at. list_at list_next (get c.args.self.now.slots at)) c.args.item.now c.args.self.now.places.entries c.in-Some.at.now
    c.requires.rising
    (sym c.in-Some.ensures.value)

pub returns-in-None : goal.returns-in-None
returns-in-None c = unlisted_empty (λ at. list_at list_next (get c.args.self.now.slots at)) c.args.item.now c.args.self.now.places.entries
    (sym c.in-None.ensures.value)
