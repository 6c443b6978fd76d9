use Rattle.std.proofs.Common.{◌≡◌, ◌++◌}
use Rattle.std.specs.Vec.Iter.{into_iter_items}
use Rattle.ifmap_replies.specs.Runs.{entries_in_runs}
use Rattle.ifmap_replies.proofs.entry_lists.entries_of.Given as goal

-- the entries so far, and those of the runs that are left, are all
abbrev pub invariant-loop-run : goal.invariant-loop-run
invariant-loop-run l = l.entries.items ++ entries_in_runs (into_iter_items l.run-iterator) ≡ entries_in_runs l.fn.runs.items
