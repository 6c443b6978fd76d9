use Rattle.std.proofs.Common.{◌≡◌, take}
use Rattle.ifmap_filter.proofs.filters.+equal.Given as goal

abbrev pub invariant-parts_are_one-loop-i : goal.invariant-parts_are_one-loop-i
invariant-parts_are_one-loop-i l = take l.i l.one ≡ take l.i l.other
