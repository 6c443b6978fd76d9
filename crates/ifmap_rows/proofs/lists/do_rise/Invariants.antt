use Rattle.std.proofs.Common.{◌≡◌, ◌<◌, ℕ, suc, length, get_or}
use Rattle.std.specs.declared.cmp.Ordering.TheVariants.{Less}
use Rattle.ifmap_meta.specs.declared.stored.Stored.{Stored}
use Rattle.ifmap_plans.specs.ifmap_view.Attachments.{stored_order}
use Rattle.ifmap_rows.proofs.lists.do_rise.Given as goal

-- each so far is less than the next
abbrev pub invariant-loop-i : goal.invariant-loop-i
invariant-loop-i l = record {
  less : (k : ℕ) (d : Stored) → suc k < l.i → suc k < length l.rows → stored_order (get_or l.rows k d) (get_or l.rows (suc k) d) ≡ Less;
  end : l.i-end ≡ length l.rows;
}
