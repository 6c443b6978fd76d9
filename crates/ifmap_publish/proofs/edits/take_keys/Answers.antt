use Rattle.std.proofs.Common.{◌≡◌, ◌∙◌, ◌||◌, ap, subst, sym}
use Rattle.std.proofs.lemmas.List.Kept.{IsStrictlySortedBy-filter}
use Rattle.std.proofs.lemmas.Result.{on_ok_weaker}
use Rattle.std.specs.List.{filter}
use Rattle.std.specs.List.Sorted.{IsStrictlySortedBy}
use Rattle.ifmap_rows.specs.ifmap_plans.Lists.{is_among, put_each}
use Rattle.ifmap_view.specs.Attachments.{stored_order}
use Rattle.ifmap_view.specs.Rows.{stored_on}
use Rattle.ifmap_publish.specs.Working.{is_keyed}
use Rattle.ifmap_publish.proofs.Gathering.{keys_taken}
use Rattle.ifmap_publish.proofs.Graphs.{sound_on}
use Rattle.ifmap_publish.proofs.edits.take_keys.Goals as goal

pub put_rows-requires : goal.put_rows-requires
put_rows-requires g c =
    let rows = g.V.View.rows c.args.view.now in
    subst (IsStrictlySortedBy stored_order) (sym c.requires.taken)
    (IsStrictlySortedBy-filter stored_order (is_among c.args.taken.now.items) (stored_on c.args.item.now rows)
    (sound_on c.args.item.now rows c.requires.graph c.requires.whole).keyed.rising)

pub returns : goal.returns
returns g c =
    let rows = g.V.View.rows c.args.view.now in
    let stored = stored_on c.args.item.now rows in
    on_ok_weaker {P = c.put_rows.new.rows.items ≡ put_each c.deref.result.now c.args.taken.now.items}
    {Q = c.put_rows.new.rows.items ≡ filter (λ s. is_among c.args.taken.now.items s || is_keyed c.args.keys.now s) stored}
    c.put_rows.result
    (λ e. e ∙ ap (λ l. put_each l c.args.taken.now.items) c.deref.ensures.value
    ∙ keys_taken stored c.args.taken.now.items c.args.keys.now c.in_ok-found.found.items
    (sound_on c.args.item.now rows c.requires.graph c.requires.whole) c.requires.taken c.in_ok-found.ensures)
    c.put_rows.ensures
