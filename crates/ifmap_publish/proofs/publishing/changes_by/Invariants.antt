use Rattle.std.proofs.Common.{◌≡◌, ◌++◌}
use Rattle.std.specs.List.{AllByRecursion}
use Rattle.ifmap_publish.specs.Working.{IsRising, changes_by}
use Rattle.ifmap_publish.proofs.publishing.changes_by.Given as goal

-- the changes so far, and those of what is left, are all
abbrev pub invariant-loop-entry : goal.invariant-loop-entry
invariant-loop-entry l = record {
  made : l.changes.items ++ changes_by l.entry-iterator ≡ changes_by l.fn.edits.entries;
  rising : AllByRecursion IsRising l.entry-iterator;
}
