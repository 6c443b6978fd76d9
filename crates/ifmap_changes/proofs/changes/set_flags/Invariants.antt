use Rattle.std.proofs.Common.{◌≡◌}
use Rattle.ifmap_changes.proofs.Flagging.{gone_first}
use Rattle.ifmap_changes.proofs.changes.set_flags.Given as goal

abbrev pub invariant-loop-at : goal.invariant-loop-at
invariant-loop-at l = l.gone.items ≡ gone_first l.serials l.at l.initial.gone.items l.standing
