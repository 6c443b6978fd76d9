use Rattle.std.proofs.Common.{◌≡◌, false, nat_lt, drop}
use Rattle.ifmap_heads.specs.Empty.{is_cut_target}
use Rattle.ifmap_heads.proofs.beginnings.is_cut_target.Given as goal

abbrev pub invariant-loop-i : goal.invariant-loop-i
invariant-loop-i l = is_cut_target false l.line ≡ is_cut_target (nat_lt 0 l.i) (drop l.i l.line)
