use Rattle.std.proofs.Common.{◌∙◌, ap, not}
use Rattle.std.proofs.lemmas.List.Kept.{IsStrictlySortedBy-filter}
use Rattle.std.specs.List.{list_any}
use Rattle.std.specs.Ordering.{eq_by_cmp}
use Rattle.ifmap_lemmas.specs.Filters.{filter_again}
use Rattle.ifmap_plans.specs.Lists.{put_each}
use Rattle.ifmap_plans.specs.ifmap_view.Attachments.{stored_order}
use Rattle.ifmap_rows.proofs.Joining.{put_again}
use Rattle.ifmap_rows.proofs.lists.join_rows.Goals as goal

pub merge_rows-requires-clause-rising : goal.merge_rows-requires-clause-rising
merge_rows-requires-clause-rising c =
    rw c.take_rows.ensures (IsStrictlySortedBy-filter stored_order
    (λ s. not (list_any (λ r. eq_by_cmp stored_order r s) c.args.added.now)) c.args.rows.now.items c.requires.rising)

pub merge_rows-requires-clause-apart : goal.merge_rows-requires-clause-apart
merge_rows-requires-clause-apart c =
    rw c.take_rows.ensures (filter_again (λ s. not (list_any (λ r. eq_by_cmp stored_order r s) c.args.added.now)) c.args.rows.now.items)

pub returns : goal.returns
returns c =
    c.in_ok-merge_rows.ensures ∙ ap (put_each c.args.added.now) c.take_rows.ensures
    ∙ put_again c.args.added.now c.args.rows.now.items c.requires.added c.requires.rising
