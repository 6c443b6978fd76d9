use Rattle.std.proofs.Common.{not}
use Rattle.std.specs.List.{list_any}
use Rattle.std.specs.Ordering.{eq_by_cmp}
use Rattle.ifmap_plans.specs.ifmap_view.Attachments.{stored_order}
use Rattle.ifmap_rows.proofs.Keeping.{filter_keeps}
use Rattle.ifmap_rows.proofs.rows.Rows.take_at_once.Goals as goal

pub invariant_of-self : goal.invariant_of-self
invariant_of-self c =
    rw (c.take_rows.ensures, c.take_word_rows.ensures) (filter_keeps c.self.inside.by_bytes.items c.self.inside.by_word.items
    c.self.invariant (λ s. not (list_any (λ r. eq_by_cmp stored_order r s) c.args.removed.now)))
