use Rattle.std.proofs.Common.{◌≡◌, take}
use Rattle.ifmap_elem.proofs.equality.+equal.Given as goal

abbrev pub invariant-child_lists_are_one-loop-i : goal.invariant-child_lists_are_one-loop-i
invariant-child_lists_are_one-loop-i l = take l.i l.one ≡ take l.i l.other
