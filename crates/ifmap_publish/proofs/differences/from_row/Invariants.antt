use Rattle.std.proofs.Common.{◌≡◌, false, length}
use Rattle.std.specs.List.{list_any}
use Rattle.std.specs.List.Sorted.{IsStrictlySortedBy}
use Rattle.std.specs.Ordering.{is_lt}
use Rattle.ifmap_meta.specs.declared.stored.Stored.{Stored}
use Rattle.ifmap_rows.specs.ifmap_plans.Lists.{same_stored}
use Rattle.ifmap_view.specs.Attachments.{stored_order}
use Rattle.ifmap_publish.proofs.differences.from_row.Given as goal

abbrev pub invariant-loop-after : goal.invariant-loop-after
invariant-loop-after l = record {
  rising : IsStrictlySortedBy stored_order l.rest;
  same : (s : Stored) → is_lt (stored_order s l.row) ≡ false → list_any (same_stored s) l.rest ≡ list_any (same_stored s) l.rows;
}

abbrev pub decreases-loop-after : goal.decreases-loop-after
decreases-loop-after l = length l.rest
