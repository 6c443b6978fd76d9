use Rattle.std.proofs.Common.{◌≡◌, take}
use Rattle.ifmap_region.specs.Ways.{missing_count}
use Rattle.ifmap_region.proofs.ways.count_missing.Given as goal

abbrev pub invariant-loop-i : goal.invariant-loop-i
invariant-loop-i l = l.count ≡ missing_count l.rows.entries (take l.i l.patch.entries)
