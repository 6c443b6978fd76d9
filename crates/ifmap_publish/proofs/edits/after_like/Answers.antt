use Rattle.std.proofs.Common.{◌∙◌, ap, sym, inl, inr}
use Rattle.std.specs.Ordering.{is_eq}
use Rattle.ifmap_publish.proofs.Meeting.{other_after, some_after}
use Rattle.ifmap_publish.proofs.edits.after_like.Goals as goal

pub returns-in-Equal : goal.returns-in-Equal
returns-in-Equal c =
    some_after c.args.row.now c.in_ok-first.first.now c.in_ok-first.after.now c.args.rows.now c.in_ok-first.ensures.cases.0
    (sym c.row_order.ensures ∙ c.in-Equal.is)

pub returns-in-Less : goal.returns-in-Less
returns-in-Less c =
    other_after c.args.row.now c.in_ok-first.first.now c.in_ok-first.after.now c.args.rows.now c.in_ok-first.ensures.cases.0
    (elim c.in-Less.is [
      | inl e ↦ ap is_eq (sym c.row_order.ensures ∙ e)
      | inr e ↦ ap is_eq (sym c.row_order.ensures ∙ e)
    ])
