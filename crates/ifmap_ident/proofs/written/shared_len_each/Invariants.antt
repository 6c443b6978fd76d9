use Rattle.std.proofs.Common.{◌≡◌, take}
use Rattle.ifmap_ident.proofs.written.shared_len_each.Given as goal

abbrev pub invariant-loop-i : goal.invariant-loop-i
invariant-loop-i l = take l.i l.one ≡ take l.i l.other
