use Rattle.std.proofs.Common.{◌≡◌, ◌+◌, ◌≤◌, length}
use Rattle.std.specs.List.Sorted.{IsStrictlySortedBy}
use Rattle.std.specs.Prelude.{vec_capacity, vec_len}
use Rattle.std.specs.Vec.Iter.{into_iter_items}
use Rattle.ifmap_folds.specs.Differences.{entry_order}
use Rattle.ifmap_folds.specs.Folds.{with_entries}
use Rattle.ifmap_client.proofs.entry_sets.put_each.Given as goal

-- the set rises, with the rest put in it is all, and there is room for the rest
abbrev pub invariant-loop-entry : goal.invariant-loop-entry
invariant-loop-entry l = record {
  rising : IsStrictlySortedBy entry_order l.set.items;
  rest : with_entries (into_iter_items l.entry-iterator) l.set.items ≡ with_entries l.fn.added.items l.fn.set.items;
  room : vec_len l.set + length (into_iter_items l.entry-iterator) ≤ vec_capacity l.set;
}
