use Rattle.std.proofs.Common.{◌≡◌, drop}
use Rattle.std.specs.List.Sorted.{IsStrictlySortedBy}
use Rattle.ifmap_plans.specs.ifmap_view.Attachments.{stored_order}
use Rattle.ifmap_plans.specs.Lists.{put_each}
use Rattle.ifmap_rows.proofs.lists.put_each.Given as goal

-- what is put on so far rises, and with the rest put on it is all
abbrev pub invariant-loop-row : goal.invariant-loop-row
invariant-loop-row l = record {
  rising : IsStrictlySortedBy stored_order l.rows.items;
  rest : put_each (drop l.row-index l.added) l.rows.items ≡ put_each l.added l.initial.rows.items;
}
