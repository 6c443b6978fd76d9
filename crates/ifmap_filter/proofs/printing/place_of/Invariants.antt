use Rattle.std.proofs.Common.{◌≡◌, ◌+◌, drop}
use Rattle.ifmap_filter.specs.Printing.{space_place}
use Rattle.ifmap_filter.proofs.printing.place_of.Given as goal

abbrev pub invariant-loop-i : goal.invariant-loop-i
invariant-loop-i l = space_place l.space l.spaces ≡ l.i + space_place l.space (drop l.i l.spaces)
