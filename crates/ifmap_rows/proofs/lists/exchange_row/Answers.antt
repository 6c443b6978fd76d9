use Rattle.std.proofs.Common.{◌≡◌, ◌∙◌, ap, false, List, subst, sym, get_or, set}
use Rattle.std.specs.List.{list_any}
use Rattle.std.specs.Ordering.{eq_by_cmp}
use Rattle.ifmap_lemmas.specs.Having.{has_from}
use Rattle.ifmap_meta.specs.declared.stored.Stored.{Stored}
use Rattle.ifmap_plans.specs.Placing.{IsEqualAt}
use Rattle.ifmap_plans.specs.ifmap_view.Attachments.{stored_order}
use Rattle.ifmap_rows.proofs.lists.exchange_row.Goals as goal

pub returns-in-Ok-clause-rows : goal.returns-in-Ok-clause-rows
returns-in-Ok-clause-rows c =
    let at = subst (λ (xs : List Stored). IsEqualAt stored_order c.args.row xs c.in-Ok.place) c.deref.ensures.value c.in-Ok.ensures in
    ap (set c.args.rows.now.items c.in-Ok.place) c.replace.ensures.after
    ∙ at.2

pub returns-in-Ok-clause-replaced : goal.returns-in-Ok-clause-replaced
returns-in-Ok-clause-replaced c =
    let at = subst (λ (xs : List Stored). IsEqualAt stored_order c.args.row xs c.in-Ok.place) c.deref.ensures.value c.in-Ok.ensures in
    let x : Stored = c.replace.result in
    let here : x ≡ get_or c.args.rows.now.items c.in-Ok.place x =
    subst (λ (y : Stored). y ≡ get_or c.args.rows.now.items c.in-Ok.place y) (sym c.replace.ensures.value) c.index_mut.ensures.value in (
      has_from c.args.rows.now.items x (c.in-Ok.place, at.0, sym here),
      ap (λ (s : Stored). stored_order s c.args.row) here ∙ at.1 x,
    )

pub returns-in-Err-clause-none : goal.returns-in-Err-clause-none
returns-in-Err-clause-none c =
    subst (λ (xs : List Stored). list_any (λ x. eq_by_cmp stored_order x c.args.row) xs ≡ false) c.deref.ensures.value
    c.in-Err.ensures.2
