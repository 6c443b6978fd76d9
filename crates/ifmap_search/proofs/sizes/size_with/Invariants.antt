use Rattle.std.proofs.Common.{◌≡◌, ◌+◌, ◌-◌, ◌^◌, min, take}
use Rattle.ifmap_search.specs.Sizes.{entries_size, size_beside_entries}
use Rattle.ifmap_search.proofs.sizes.size_with.Given as goal

abbrev pub invariant-loop-entry : goal.invariant-loop-entry
invariant-loop-entry l = l.size ≡ min (size_beside_entries + entries_size (take l.entry-index l.entries)) (2 ^ 64 - 1)
