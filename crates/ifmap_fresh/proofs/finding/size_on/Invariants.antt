use Rattle.std.proofs.Common.{◌≡◌, take}
use Rattle.ifmap_search.specs.Sizes.{entries_size}
use Rattle.ifmap_fresh.specs.Gathered.{entries_on}
use Rattle.ifmap_fresh.proofs.finding.size_on.Given as goal

abbrev pub invariant-loop-item : goal.invariant-loop-item
invariant-loop-item g l = l.size ≡ entries_size (entries_on l.filter (g.V.View.rows l.view) (take l.item-index l.items))
