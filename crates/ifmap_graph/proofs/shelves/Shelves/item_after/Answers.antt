use Rattle.std.specs.Option.{option_copied}
use Rattle.std.proofs.lemmas.Option.{IfSome_then}
use Rattle.slab.specs.Slab.{get}
use Rattle.ifmap_graph.specs.Shelved.{list_at}
use Rattle.ifmap_graph.specs.Sides.{list_now}
use Rattle.ifmap_ident.specs.Items.{IsCanonItem}
use Rattle.ifmap_graph.proofs.Following.{first_has, next_is, none_is}
use Rattle.ifmap_graph.proofs.shelves.Shelves.item_after.Goals as goal
use Rattle.ifmap_lemmas.specs.Absent.{if_none_weaker}
use Rattle.ifmap_lemmas.specs.Having.{all_has}

pub returns-clause-found : goal.returns-clause-found
returns-clause-found g c =
    IfSome_then c.first_after.result c.first_after.ensures.found
    (λ item f. next_is (λ at. list_at list_now (get c.args.self.now.slots at)) c.args.self.now.places.entries c.requires.rising
    (option_copied c.args.item) item.now f)

pub returns-clause-none : goal.returns-clause-none
returns-clause-none g c =
    if_none_weaker c.first_after.result _ _
    (none_is (λ at. list_at list_now (get c.args.self.now.slots at)) c.args.self.now.places.entries c.requires.rising
    (option_copied c.args.item)) c.first_after.ensures.none

pub returns-clause-canon : goal.returns-clause-canon
returns-clause-canon g c =
    IfSome_then c.first_after.result c.first_after.ensures.found
    (λ item f.
    let h = first_has (λ at. list_at list_now (get c.args.self.now.slots at)) c.args.self.now.places.entries c.requires.rising
    (option_copied c.args.item) item.now f
    in all_has (λ e. IsCanonItem e.0) c.args.self.now.places.entries c.requires.canon (item.now, h.0) h.1)
