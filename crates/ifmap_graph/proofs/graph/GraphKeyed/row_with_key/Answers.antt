use Rattle.std.proofs.Common.{Contains, IfNone, IfSome, List, sym, subst}
use Rattle.std.specs.List.{AllByRecursion}
use Rattle.slab.specs.Slab.{get}
use Rattle.ifmap_meta.specs.Keys.{HaveOneKey}
use Rattle.ifmap_view.specs.declared.attachments.Attachment.{Attachment}
use Rattle.ifmap_view.specs.Rows.{stored_on}
use Rattle.ifmap_graph.specs.Sides.{list_now}
use Rattle.ifmap_graph.proofs.Insides.{rows_shown}
use Rattle.ifmap_graph.proofs.graph.GraphKeyed.row_with_key.Goals as goal

pub row_with_key-requires : goal.row_with_key-requires
row_with_key-requires c = c.self.invariant.placed

pub returns-clause-found : goal.returns-clause-found
returns-clause-found c =
    rw (← c.self.view_is)
    (subst (λ (rows : List Attachment). IfSome c.row_with_key.result
    (λ found. Contains (stored_on c.args.item.now rows) found.now × HaveOneKey c.args.row.now found.now))
    (sym (rows_shown list_now (get c.self.inside.shelves.slots) c.self.inside.shelves.places.entries)) c.row_with_key.ensures.found)

pub returns-clause-none : goal.returns-clause-none
returns-clause-none c =
    rw (← c.self.view_is)
    (subst (λ (rows : List Attachment). IfNone c.row_with_key.result
    (AllByRecursion (λ s. HaveOneKey c.args.row.now s → ⊥) (stored_on c.args.item.now rows)))
    (sym (rows_shown list_now (get c.self.inside.shelves.slots) c.self.inside.shelves.places.entries)) c.row_with_key.ensures.none)
