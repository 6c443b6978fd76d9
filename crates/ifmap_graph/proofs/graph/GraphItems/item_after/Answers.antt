use Rattle.std.proofs.Common.{IfSome, IfNone, List, sym, subst}
use Rattle.std.specs.Option.{option_copied}
use Rattle.slab.specs.Slab.{get}
use Rattle.ifmap_plans.specs.After.{IsNextItem, NoItem}
use Rattle.ifmap_view.specs.declared.attachments.Attachment.{Attachment}
use Rattle.ifmap_graph.specs.Sides.{list_now}
use Rattle.ifmap_graph.proofs.Insides.{rows_shown}
use Rattle.ifmap_graph.proofs.graph.GraphItems.item_after.Goals as goal

pub item_after-requires : goal.item_after-requires
item_after-requires g c = c.self.invariant.placed

pub returns-clause-found : goal.returns-clause-found
returns-clause-found g c =
    rw (← c.self.view_is)
    (subst (λ (rows : List Attachment). IfSome c.item_after.result (λ found. IsNextItem rows (option_copied c.args.item) found.now))
    (sym (rows_shown list_now (get c.self.inside.shelves.slots) c.self.inside.shelves.places.entries)) c.item_after.ensures.found)

pub returns-clause-none : goal.returns-clause-none
returns-clause-none g c =
    rw (← c.self.view_is)
    (subst (λ (rows : List Attachment). IfNone c.item_after.result (NoItem rows (option_copied c.args.item)))
    (sym (rows_shown list_now (get c.self.inside.shelves.slots) c.self.inside.shelves.places.entries)) c.item_after.ensures.none)
