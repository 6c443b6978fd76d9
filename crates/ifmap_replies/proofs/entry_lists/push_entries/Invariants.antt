use Rattle.std.proofs.Common.{◌≡◌, ◌++◌, map}
use Rattle.std.specs.Vec.Iter.{into_iter_items}
use Rattle.ifmap_replies.specs.Runs.{entry_on, run_entries}
use Rattle.ifmap_replies.proofs.entry_lists.push_entries.Given as goal

-- the entries so far, and those of the elements that are left, are all
abbrev pub invariant-loop-element : goal.invariant-loop-element
invariant-loop-element l =
    l.entries.items ++ map (entry_on l.fn.run.item) (into_iter_items l.element-iterator)
    ≡ l.fn.entries.items ++ run_entries l.fn.run
