use Rattle.std.proofs.Common.{◌≡◌, take, map}
use Rattle.ifmap_elem.specs.Arranged.{arrange_child}
use Rattle.ifmap_elem.proofs.comparing.+same.Given as goal

abbrev pub invariant-same_children-loop-i : goal.invariant-same_children-loop-i
invariant-same_children-loop-i l = map arrange_child (take l.i l.one) ≡ map arrange_child (take l.i l.other)
