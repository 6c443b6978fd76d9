use Rattle.std.proofs.Common.{◌≡◌, drop}
use Rattle.std.specs.List.Sorted.{IsStrictlySortedBy}
use Rattle.ifmap_folds.specs.Differences.{difference, entry_order}
use Rattle.ifmap_client.proofs.entry_sets.remove_each.Given as goal

-- the set rises, and without the rest it is what is to be left
abbrev pub invariant-loop-entry : goal.invariant-loop-entry
invariant-loop-entry l = record {
  rising : IsStrictlySortedBy entry_order l.set.items;
  rest : difference l.set.items (drop l.entry-index l.removed) ≡ difference l.fn.set.items l.removed;
}
