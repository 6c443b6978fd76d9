use Rattle.std.proofs.Common.{◌≡◌, ◌≤◌, length}
use Rattle.std.specs.List.{AllByRecursion}
use Rattle.ifmap_delta.specs.Touched.{IsPaired, items_touched}
use Rattle.ifmap_delta.proofs.pairing.pair_with_changes.Given as goal

abbrev pub invariant-loop-place : goal.invariant-loop-place
invariant-loop-place l = record {
  within : l.place ≤ length l.changes;
  items : items_touched l.touched.items ≡ l.fn.items.items;
  paired : AllByRecursion (IsPaired l.changes l.place) l.touched.items;
}

abbrev pub decreases-loop-place : goal.decreases-loop-place
decreases-loop-place l = l.place
