use Rattle.std.proofs.Common.{◌≤◌, ◌-◌, length}
use Rattle.ifmap_graph.proofs.reserving.empty_lists.Given as goal

abbrev pub invariant-lists : goal.invariant-lists
invariant-lists l = length l.lists.items ≤ l.n

abbrev pub decreases-lists : goal.decreases-lists
decreases-lists l = l.n - length l.lists.items
