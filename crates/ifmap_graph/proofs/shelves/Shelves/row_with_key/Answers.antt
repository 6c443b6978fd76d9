use Rattle.std.proofs.Common.{List, Contains, IfNone, IfSome, IsSome, ap, sym, ◌∙◌, subst}
use Rattle.std.specs.List.{AllByRecursion}
use Rattle.slab.specs.Slab.{get}
use Rattle.ifmap_meta.specs.declared.stored.Stored.{Stored}
use Rattle.ifmap_meta.specs.Keys.{HaveOneKey}
use Rattle.ifmap_graph.specs.Shelved.{list_at}
use Rattle.ifmap_graph.specs.Sides.{list_now}
use Rattle.ifmap_graph.proofs.Finding.{entry_stores, unlisted_empty, live_at}
use Rattle.ifmap_graph.proofs.shelves.Shelves.row_with_key.Goals as goal

pub index-requires : goal.index-requires
index-requires c = live_at (λ n. IsSome (get c.args.self.now.slots n)) _ c.args.self.now.places.entries c.in-Some.at.now c.requires.live
    (sym c.in-Some.ensures.value)

pub returns-in-Some-clause-found : goal.returns-in-Some-clause-found
returns-in-Some-clause-found c =
    subst (λ (rows : List Stored). IfSome c.row_with_key.result (λ found. Contains rows found.now × HaveOneKey c.args.row.now found.now))
    (ap (list_at list_now) (sym c.index.ensures)
    ∙ entry_stores (λ at. list_at list_now (get c.args.self.now.slots at)) c.args.item.now c.args.self.now.places.entries c.in-Some.at.now
    c.requires.rising (sym c.in-Some.ensures.value))
    c.row_with_key.ensures.found

pub returns-in-Some-clause-none : goal.returns-in-Some-clause-none
returns-in-Some-clause-none c =
    subst (λ (rows : List Stored). IfNone c.row_with_key.result (AllByRecursion (λ s. HaveOneKey c.args.row.now s → ⊥) rows))
    (ap (list_at list_now) (sym c.index.ensures)
    ∙ entry_stores (λ at. list_at list_now (get c.args.self.now.slots at)) c.args.item.now c.args.self.now.places.entries c.in-Some.at.now
    c.requires.rising (sym c.in-Some.ensures.value))
    c.row_with_key.ensures.none

pub returns-in-None-clause-none : goal.returns-in-None-clause-none
returns-in-None-clause-none c =
    subst (λ (rows : List Stored). AllByRecursion (λ s. HaveOneKey c.args.row.now s → ⊥) rows)
    (unlisted_empty (λ at. list_at list_now (get c.args.self.now.slots at)) c.args.item.now c.args.self.now.places.entries
    (sym c.in-None.ensures.value))
    tt
