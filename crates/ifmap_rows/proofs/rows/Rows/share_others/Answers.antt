use Rattle.std.proofs.Common.{not}
use Rattle.std.specs.List.{list_any}
use Rattle.std.specs.Ordering.{eq_by_cmp}
use Rattle.ifmap_plans.specs.ifmap_view.Attachments.{stored_order}
use Rattle.ifmap_rows.proofs.Keeping.{filter_keeps}
use Rattle.ifmap_rows.proofs.rows.Rows.share_others.Goals as goal

pub invariant_of-others : goal.invariant_of-others
invariant_of-others c =
    rw (
      c.in_ok-share_others.ensures,
      c.in_ok-share_others_in_index.ensures,
      c.deref.ensures.value,
      c.deref-2.ensures.value,
    ) (filter_keeps c.self.inside.by_bytes.items
    c.self.inside.by_word.items c.self.invariant (λ s. not (list_any (λ r. eq_by_cmp stored_order r s) c.args.removed.now)))
