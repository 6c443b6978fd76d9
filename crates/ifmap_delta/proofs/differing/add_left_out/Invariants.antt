use Rattle.std.proofs.Common.{◌≡◌, ◌++◌, take}
use Rattle.ifmap_delta.specs.Touched.{surplus}
use Rattle.ifmap_delta.proofs.differing.add_left_out.Given as goal

abbrev pub invariant-loop-row : goal.invariant-loop-row
invariant-loop-row l = l.entries.items ≡ l.initial.entries.items ++ surplus l.filter l.item (take l.row-index l.these) l.others
