use Rattle.std.proofs.Common.{◌≡◌, drop}
use Rattle.ifmap_heads.specs.Heads.{after_line_ends}
use Rattle.ifmap_heads.proofs.beginnings.after_line_ends.Given as goal

abbrev pub invariant-loop-i : goal.invariant-loop-i
invariant-loop-i l = after_line_ends l.bytes ≡ after_line_ends (drop l.i l.bytes)
