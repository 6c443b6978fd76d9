use Rattle.std.proofs.Common.{option_to_list, subst, sym}
use Rattle.ifmap_changes.specs.ifmap_machine.Telling.{tell_session}
use Rattle.ifmap_changes.specs.ifmap_session.Sessions.{Changes}
use Rattle.ifmap_subscribes.proofs.RenamingTold.{tells_nothing}
use Rattle.ifmap_subscribes.proofs.renamings.push_where.Goals as goal

pub returns-in_default-clause-changes : goal.returns-in_default-clause-changes
returns-in_default-clause-changes c =
    subst (λ o. Changes c.args.serial (tell_session (option_to_list o)) c.args.sessions.now c.args.sessions.now) (sym c.in_default.is)
    (tells_nothing c.args.serial c.args.sessions.now)
