use Rattle.std.proofs.Common.{◌∙◌, ◌||◌, subst, sym}
use Rattle.std.specs.List.{AllByRecursion, filter}
use Rattle.ifmap_meta.specs.Whole.{IsWhole}
use Rattle.ifmap_view.specs.Rows.{stored_on}
use Rattle.ifmap_rows.specs.ifmap_plans.Lists.{is_among}
use Rattle.ifmap_publish.specs.Working.{IsSound, is_keyed, list_by, over_keys}
use Rattle.ifmap_publish.specs.declared.edits.Edit.{Edit}
use Rattle.ifmap_publish.proofs.Editing.{put_sound}
use Rattle.ifmap_publish.proofs.Gathering.{last_sound, makes_all}
use Rattle.ifmap_publish.proofs.Graphs.{sound_on}
use Rattle.ifmap_publish.proofs.edits.attach_each.Goals as goal

pub take_keys-requires-clause-keys : goal.take_keys-requires-clause-keys
take_keys-requires-clause-keys g c =
    subst (AllByRecursion IsWhole) (sym c.as_slice.ensures.rows)
    (last_sound c.args.rows.now c.in_ok-last.last c.requires.rows c.in_ok-last.ensures).whole

pub put_over_keys-requires-clause-put : goal.put_over_keys-requires-clause-put
put_over_keys-requires-clause-put g c =
    let stored = stored_on c.args.item.now (g.V.View.rows c.args.view.now) in
    subst (λ (e : Edit). IsSound e.put) (sym c.edit.view_is)
    (put_sound stored (list_by c.args.edit.now stored) c.args.edit.now c.requires.edit)

pub put_over_keys-requires-clause-more : goal.put_over_keys-requires-clause-more
put_over_keys-requires-clause-more g c =
    subst (AllByRecursion IsWhole) (sym c.as_slice-2.ensures.rows)
    (last_sound c.args.rows.now c.in_ok-last.last c.requires.rows c.in_ok-last.ensures).whole

pub returns : goal.returns
returns g c =
    let rows = g.V.View.rows c.args.view.now in
    let stored = stored_on c.args.item.now rows in
    makes_all stored (list_by c.args.edit.now stored) c.args.edit.now _ c.args.rows.now c.in_ok-last.last
    (sound_on c.args.item.now rows c.requires.graph c.requires.whole).keyed.rising c.requires.edit c.requires.rows c.in_ok-last.ensures
    (c.in_ok-take_keys.ensures
    ∙ (λ i. filter (λ s. is_among (c.edit.view_is i).taken s || is_keyed (c.as_slice.ensures.rows i) s) stored))
    (c.in_ok-put_over_keys.ensures ∙ (λ i. over_keys (c.edit.view_is i).put (c.as_slice-2.ensures.rows i)))
