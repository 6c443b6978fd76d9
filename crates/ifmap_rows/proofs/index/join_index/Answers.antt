use Rattle.std.proofs.Common.{List, not, subst}
use Rattle.std.proofs.lemmas.List.Kept.{IsStrictlySortedBy-filter}
use Rattle.std.specs.List.{list_any}
use Rattle.std.specs.Ordering.{eq_by_cmp}
use Rattle.ifmap_lemmas.specs.Filters.{filter_again}
use Rattle.ifmap_meta.specs.declared.stored.Stored.{Stored}
use Rattle.ifmap_plans.specs.ifmap_view.Attachments.{stored_order}
use Rattle.ifmap_rows.specs.Indexed.{IsJoined, word_order}
use Rattle.ifmap_rows.proofs.Joining.{joined_again}
use Rattle.ifmap_rows.proofs.index.join_index.Goals as goal

pub merge_index-requires-clause-rising : goal.merge_index-requires-clause-rising
merge_index-requires-clause-rising c =
    rw c.take_word_rows.ensures (IsStrictlySortedBy-filter word_order
    (λ s. not (list_any (λ r. eq_by_cmp stored_order r s) c.args.added.now)) c.args.index.items c.requires.rising)

pub merge_index-requires-clause-apart : goal.merge_index-requires-clause-apart
merge_index-requires-clause-apart c =
    rw c.take_word_rows.ensures
    (filter_again (λ s. not (list_any (λ r. eq_by_cmp stored_order r s) c.args.added.now)) c.args.index.items)

pub returns : goal.returns
returns c =
    joined_again c.args.index.items c.args.added.now _
    (subst (λ (l : List Stored). IsJoined l c.args.added.now c.in_ok-joined.joined.items) c.take_word_rows.ensures c.in_ok-joined.ensures)
