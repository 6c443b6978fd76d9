use Rattle.std.proofs.Common.{cond, get_or, ap, ◌∙◌}
use Rattle.std.proofs.lemmas.List.{get_or_default}
use Rattle.std.specs.BTreeMap.{is_at}
use Rattle.ifmap_ident.specs.Items.{item_order}
use Rattle.ifmap_plans.specs.declared.plans.ItemChange.{ItemChange}
use Rattle.ifmap_view.specs.Rows.{stored_on}
use Rattle.ifmap_graph.specs.Shelved.{rows_on_side}
use Rattle.ifmap_graph.specs.Sides.{list_now}
use Rattle.ifmap_graph.proofs.undoing.exchange_at.Goals as goal

pub exchange_one-requires-clause-there : goal.exchange_one-requires-clause-there
exchange_one-requires-clause-there c = c.requires.there c.index-changes-i.result

pub returns-clause-now : goal.returns-clause-now
returns-clause-now c = λ d list x.
    c.exchange_one.ensures.now x
    ∙ ap (λ (y : ItemChange). cond (is_at (item_order y.item) x) c.index_mut.result.now
    (stored_on x (rows_on_side list_now c.args.shelves.now)))
    (get_or_default c.args.changes.now c.args.i c.index-changes-i.result d c.requires.place)
    ∙ ap (λ l. cond (is_at (item_order (get_or c.args.changes.now c.args.i d).item) x) l
    (stored_on x (rows_on_side list_now c.args.shelves.now)))
    (c.index_mut.ensures.value ∙ get_or_default c.args.lists.now.items c.args.i c.index_mut.result.now list c.requires.room)
