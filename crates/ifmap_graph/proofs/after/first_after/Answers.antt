use Rattle.std.proofs.Common.{IfSome, IfNone, subst, ◌∙◌}
use Rattle.slab.specs.Slab.{get}
use Rattle.ifmap_graph.specs.After.{AreEmpty, IsFirstFull}
use Rattle.ifmap_graph.specs.Shelved.{list_at}
use Rattle.ifmap_graph.specs.Sides.{list_now}
use Rattle.ifmap_graph.proofs.after.first_after.Goals as goal
use Rattle.ifmap_lemmas.specs.Filters.{all_pass}

pub returns-in-None-clause-found : goal.returns-in-None-clause-found
returns-in-None-clause-found c =
    rw c.in-None.is
    (subst (λ es. IfSome c.first_item-in-None.result
    (λ item. IsFirstFull (λ at. list_at list_now (get c.args.shelves.now.slots at)) es item.now))
    (c.range-in-None.ensures.between _ ∙ all_pass c.args.shelves.now.places.entries) c.first_item-in-None.ensures.found)

pub returns-in-None-clause-none : goal.returns-in-None-clause-none
returns-in-None-clause-none c =
    rw c.in-None.is
    (subst (λ es. IfNone c.first_item-in-None.result (AreEmpty (λ at. list_at list_now (get c.args.shelves.now.slots at)) es))
    (c.range-in-None.ensures.between _ ∙ all_pass c.args.shelves.now.places.entries) c.first_item-in-None.ensures.none)
