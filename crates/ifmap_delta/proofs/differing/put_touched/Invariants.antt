use Rattle.std.proofs.Common.{◌≡◌, ◌++◌, List, take}
use Rattle.std.specs.List.Sorted.{IsStrictlySortedBy}
use Rattle.ifmap_meta.specs.declared.stored.Stored.{Stored}
use Rattle.ifmap_view.specs.Attachments.{stored_order}
use Rattle.ifmap_delta.specs.Touched.{rows_touched_by}
use Rattle.ifmap_delta.proofs.differing.put_touched.Given as goal

abbrev pub invariant-loop-row : goal.invariant-loop-row
invariant-loop-row l = record {
  rising : IsStrictlySortedBy stored_order l.found.items;
  found : (earlier : List Stored) → l.initial.found.items ≡ rows_touched_by earlier l.rows
      → l.found.items ≡ rows_touched_by (earlier ++ take l.row-index l.these) l.rows;
}
