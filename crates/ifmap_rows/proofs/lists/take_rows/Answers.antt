use Rattle.std.proofs.Common.{rules, not}
use Rattle.std.proofs.lemmas.Fn.{filter_same}
use Rattle.std.specs.List.{list_any}
use Rattle.std.specs.Ordering.{eq_by_cmp}
use Rattle.ifmap_plans.specs.ifmap_view.Attachments.{stored_order}
use Rattle.ifmap_rows.proofs.lists.take_rows.Goals as goal

pub returns : goal.returns
returns c =
    filter_same _ (λ s. not (list_any (λ r. eq_by_cmp stored_order r s) c.args.removed.now)) _ (λ a b f k. search rules) _ _
    c.retain.ensures.filtered
