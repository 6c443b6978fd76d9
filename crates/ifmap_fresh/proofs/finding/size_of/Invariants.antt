use Rattle.std.proofs.Common.{◌≡◌, take}
use Rattle.ifmap_search.specs.Sizes.{entries_size}
use Rattle.ifmap_fresh.specs.Gathered.{entries_of}
use Rattle.ifmap_fresh.proofs.finding.size_of.Given as goal

abbrev pub invariant-loop-row : goal.invariant-loop-row
invariant-loop-row l = l.size ≡ entries_size (entries_of l.filter l.item (take l.row-index l.rows))
