use Rattle.ifmap_subscribes.specs.ifmap_changes.Between.{sessions_left}
use Rattle.ifmap_core.proofs.Owned.{none_told}
use Rattle.ifmap_core.proofs.beginning.has_none.Goals as goal
use Rattle.ifmap_session.specs.Sessions.{session_of_client}

pub returns : goal.returns
returns c =
    none_told c.former_of.result (session_of_client c.args.asking.now.client (sessions_left c.args.asking.now c.args.sessions.now))
    c.is_none.result
    c.former_of.ensures.serial c.is_none.ensures
