use Rattle.std.proofs.Common.{rules}
use Rattle.std.proofs.lemmas.List.Sorted.{answers_always, ranks_by}
use Rattle.std.specs.Ordering.{is_lt}
use Rattle.ifmap_meta.specs.declared.stored.Stored.{Stored}
use Rattle.ifmap_plans.specs.laws.KeyLaws.{stored_total}
use Rattle.ifmap_plans.specs.ifmap_view.Attachments.{stored_order}
use Rattle.ifmap_rows.proofs.Joining.{rows_merged}
use Rattle.ifmap_rows.proofs.lists.merge_rows.Goals as goal

pub returns : goal.returns
returns c =
    let made = rw (c.in_ok-append.ensures.items, c.in_ok-more.ensures) at c.in_ok-sort_by.ensures.permutation in
    rows_merged c.args.rows.now.items c.args.added.now _ c.requires.added c.requires.apart made c.requires.rising
    (c.in_ok-sort_by.ensures.sorted (λ x y. is_lt (stored_order x y)) (ranks_by stored_total (λ (s : Stored). s))
    (answers_always _ _ _ (λ f a r g k. search rules)))
