use Rattle.std.proofs.Common.{◌≡◌, IfOk, ap, sym, ◌∙◌, subst}
use Rattle.slab.specs.Slab.{get}
use Rattle.ifmap_plans.specs.Lists.{next_on}
use Rattle.ifmap_graph.specs.Shelved.{list_at}
use Rattle.ifmap_graph.specs.Sides.{list_now}
use Rattle.ifmap_graph.proofs.Finding.{entry_stores}
use Rattle.ifmap_graph.proofs.Again.{written_again}
use Rattle.ifmap_graph.proofs.Writes.{slot_live}
use Rattle.ifmap_graph.proofs.shelves.Shelves.make_next.Goals as goal
use Rattle.ifmap_lemmas.specs.Options.{some_is}

pub make_next_at-requires : goal.make_next_at-requires
make_next_at-requires c =
    slot_live (get c.args.self.now.slots) c.args.self.now.places.entries c.args.change.now.item c.index-at.result.now c.requires.shelved
    c.index-at.ensures

pub returns-clause-next : goal.returns-clause-next
returns-clause-next c =
    let s = some_is (get c.args.self.now.slots c.index-at.result.now)
    (slot_live (get c.args.self.now.slots) c.args.self.now.places.entries c.args.change.now.item c.index-at.result.now c.requires.shelved
    c.index-at.ensures)
    in subst (λ rows. IfOk c.make_next_at.result
    (λ list. list.value ≡ next_on c.args.change.now.removed c.args.change.now.added rows))
    (sym (ap (list_at list_now) s.1)
    ∙ entry_stores (λ at. list_at list_now (get c.args.self.now.slots at)) c.args.change.now.item c.args.self.now.places.entries
    c.index-at.result.now c.requires.shelved.rising c.index-at.ensures)
    (c.make_next_at.ensures.next s.0 s.1)

pub returns-clause-same : goal.returns-clause-same
returns-clause-same c =
    let s = some_is (get c.args.self.now.slots c.index-at.result.now)
    (slot_live (get c.args.self.now.slots) c.args.self.now.places.entries c.args.change.now.item c.index-at.result.now c.requires.shelved
    c.index-at.ensures)
    in ap (λ slots. record c.args.self.now { slots = slots }) (c.make_next_at.ensures.slots s.0 s.1
    ∙ written_again c.args.self.now.slots c.index-at.result.now s.0 s.1)
