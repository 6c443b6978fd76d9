use Rattle.std.proofs.Common.{◌≡◌, ◌∙◌, false, not, List, subst, sym}
use Rattle.std.proofs.lemmas.List.Kept.{IsStrictlySortedBy-filter}
use Rattle.std.specs.List.{list_any}
use Rattle.std.specs.List.Sorted.{IsStrictlySortedBy}
use Rattle.std.specs.Ordering.{eq_by_cmp}
use Rattle.ifmap_meta.specs.declared.stored.Stored.{Stored}
use Rattle.ifmap_plans.specs.Placing.{IsEqualAt}
use Rattle.ifmap_rows.specs.Indexed.{word_order}
use Rattle.ifmap_rows.proofs.Keeping.{words_total}
use Rattle.ifmap_rows.specs.laws.RisingLaws.{none_out, remove_is}
use Rattle.ifmap_rows.proofs.index.take_word_row.Goals as goal

pub returns-in-Ok-clause-rows : goal.returns-in-Ok-clause-rows
returns-in-Ok-clause-rows c =
    let at = subst (λ (xs : List Stored). IsEqualAt word_order c.args.worded.now xs c.in-Ok.spot) c.deref.ensures.value c.in-Ok.ensures in
    c.remove.ensures.items
    ∙ remove_is Stored word_order words_total c.args.worded.now c.args.index.now.items c.in-Ok.spot c.requires at.0 at.1

pub returns-in-Ok-clause-rising : goal.returns-in-Ok-clause-rising
returns-in-Ok-clause-rising c =
    let at = subst (λ (xs : List Stored). IsEqualAt word_order c.args.worded.now xs c.in-Ok.spot) c.deref.ensures.value c.in-Ok.ensures in
    subst (IsStrictlySortedBy word_order)
    (sym (c.remove.ensures.items
    ∙ remove_is Stored word_order words_total c.args.worded.now c.args.index.now.items c.in-Ok.spot c.requires at.0 at.1))
    (IsStrictlySortedBy-filter word_order (λ x. not (eq_by_cmp word_order c.args.worded.now x)) c.args.index.now.items c.requires)

pub returns-in_default-clause-rows : goal.returns-in_default-clause-rows
returns-in_default-clause-rows c =
    none_out Stored word_order words_total c.args.worded.now c.args.index.now.items
    (subst (λ (xs : List Stored). list_any (λ x. eq_by_cmp word_order x c.args.worded.now) xs ≡ false) c.deref.ensures.value
    c.in_default.ensures.2)
