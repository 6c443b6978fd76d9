use Rattle.std.proofs.Common.{◌≡◌, ◌∙◌, ap, false, List, subst, sym}
use Rattle.std.specs.List.{list_any}
use Rattle.std.specs.Ordering.{eq_by_cmp}
use Rattle.ifmap_lemmas.specs.Having.{has_from}
use Rattle.ifmap_meta.specs.declared.stored.Stored.{Stored}
use Rattle.ifmap_plans.specs.Placing.{IsEqualAt}
use Rattle.ifmap_plans.specs.laws.KeyLaws.{stored_total}
use Rattle.ifmap_plans.specs.ifmap_view.Attachments.{stored_order}
use Rattle.ifmap_rows.specs.laws.RisingLaws.{none_out, remove_is}
use Rattle.ifmap_rows.proofs.lists.take_row.Goals as goal

pub returns-in-Ok-clause-rows : goal.returns-in-Ok-clause-rows
returns-in-Ok-clause-rows c =
    let at = subst (λ (xs : List Stored). IsEqualAt stored_order c.args.row.now xs c.in-Ok.place) c.deref.ensures.value c.in-Ok.ensures in
    c.remove.ensures.items
    ∙ remove_is Stored stored_order stored_total c.args.row.now c.args.rows.now.items c.in-Ok.place c.requires at.0 at.1

pub returns-in-Ok-clause-taken : goal.returns-in-Ok-clause-taken
returns-in-Ok-clause-taken c =
    let at = subst (λ (xs : List Stored). IsEqualAt stored_order c.args.row.now xs c.in-Ok.place) c.deref.ensures.value c.in-Ok.ensures in (
      has_from c.args.rows.now.items c.remove.result (c.in-Ok.place, at.0, sym c.remove.ensures.value),
      ap (λ (s : Stored). stored_order s c.args.row.now) c.remove.ensures.value ∙ at.1 c.remove.result,
    )

pub returns-in-Err-clause-rows : goal.returns-in-Err-clause-rows
returns-in-Err-clause-rows c =
    none_out Stored stored_order stored_total c.args.row.now c.args.rows.now.items
    (subst (λ (xs : List Stored). list_any (λ x. eq_by_cmp stored_order x c.args.row.now) xs ≡ false) c.deref.ensures.value
    c.in-Err.ensures.2)
