use Rattle.std.proofs.Common.{◌∙◌, ap, sym, inl, inr}
use Rattle.std.specs.Ordering.{is_lt}
use Rattle.ifmap_publish.proofs.Passing.{all_from}
use Rattle.ifmap_publish.proofs.differences.after_below.Goals as goal

pub returns-in-Equal : goal.returns-in-Equal
returns-in-Equal c =
    all_from c.args.row.now c.in_ok-first.first.now c.in_ok-first.after.now c.args.rows.now c.in_ok-first.ensures.cases.0 c.requires
    (elim c.in-Equal.is [
      | inl e ↦ ap is_lt (sym c.row_order.ensures ∙ e)
      | inr e ↦ ap is_lt (sym c.row_order.ensures ∙ e)
    ])
