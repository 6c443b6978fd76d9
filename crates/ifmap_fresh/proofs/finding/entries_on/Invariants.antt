use Rattle.std.proofs.Common.{◌≡◌, ◌++◌}
use Rattle.ifmap_fresh.specs.Gathered.{entries_on}
use Rattle.ifmap_fresh.proofs.finding.entries_on.Given as goal

abbrev pub invariant-loop-item : goal.invariant-loop-item
invariant-loop-item g l =
    l.entries.items ++ entries_on l.filter (g.V.View.rows l.view) l.item-iterator.rest.items
    ≡ entries_on l.filter (g.V.View.rows l.view) l.fn.items.items
