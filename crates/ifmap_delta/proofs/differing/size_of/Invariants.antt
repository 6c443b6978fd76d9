use Rattle.std.proofs.Common.{◌≡◌, take}
use Rattle.ifmap_search.specs.Sizes.{entries_size}
use Rattle.ifmap_delta.proofs.differing.size_of.Given as goal

abbrev pub invariant-loop-entry : goal.invariant-loop-entry
invariant-loop-entry l = l.size ≡ entries_size (take l.entry-index l.entries)
