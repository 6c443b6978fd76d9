use Rattle.std.proofs.Common.{◌≡◌, drop, take}
use Rattle.std.specs.List.{AllByRecursion, list_any}
use Rattle.std.specs.List.Sorted.{IsStrictlySortedBy}
use Rattle.ifmap_rows.specs.ifmap_plans.Lists.{stored_difference, same_stored}
use Rattle.ifmap_view.specs.Attachments.{stored_order}
use Rattle.ifmap_publish.proofs.differences.difference.Given as goal

-- what is made is the difference so far, and what is left of the other list is all of it to those to come
abbrev pub invariant-loop-row : goal.invariant-loop-row
invariant-loop-row l = record {
  made : l.made.items ≡ stored_difference (take l.row-index l.one) l.other;
  rising : IsStrictlySortedBy stored_order l.rest;
  same : AllByRecursion (λ s. list_any (same_stored s) l.rest ≡ list_any (same_stored s) l.other) (drop l.row-index l.one);
}
