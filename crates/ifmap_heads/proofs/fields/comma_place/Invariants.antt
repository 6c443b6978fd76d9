use Rattle.std.proofs.Common.{◌≡◌, true, take}
use Rattle.ifmap_heads.proofs.Values.{lacks_comma}
use Rattle.ifmap_heads.proofs.fields.comma_place.Given as goal

abbrev pub invariant-loop-i : goal.invariant-loop-i
invariant-loop-i l = lacks_comma (take l.i l.bytes) ≡ true
