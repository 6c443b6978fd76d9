use Rattle.std.proofs.Common.{◌≢◌, subst, sym}
use Rattle.std.specs.List.Sorted.{IsStrictlySortedBy}
use Rattle.ifmap_changes.proofs.Flagging.{none_left}
use Rattle.ifmap_changes.proofs.changes.flag_session.Goals as goal
use Rattle.ifmap_tellings.specs.ifmap_standing.declared.standing.Standing.{Standing}
use Rattle.ifmap_tellings.specs.Tellings.{AllKept}

pub returns-clause-bare : goal.returns-clause-bare
returns-clause-bare c =
    subst (λ gone. AllKept (λ (x : Standing). x.serial ≢ c.args.serial) gone c.args.standing.now) (sym c.flag_sessions.ensures.flags.gone)
    (none_left c.args.serial c.args.pending.now.gone.items c.args.standing.now)

pub flag_sessions-requires-clause-rising : goal.flag_sessions-requires-clause-rising
unfolding IsStrictlySortedBy
flag_sessions-requires-clause-rising c = (tt, tt)
