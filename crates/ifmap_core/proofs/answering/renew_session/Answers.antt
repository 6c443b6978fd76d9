use Rattle.ifmap_core.proofs.InSession.{refuses_another, refuses_nobody, renews_own}
use Rattle.ifmap_core.proofs.answering.renew_session.Goals as goal
use Rattle.ifmap_subscribes.specs.ifmap_machine.Step.{renew_session}

pub returns-in-Own : goal.returns-in-Own
returns-in-Own c = renews_own c.requires c.args.id.now c.in-Own.serial c.in-Own.ensures

pub returns-in-Another : goal.returns-in-Another
returns-in-Another c = refuses_another c.requires c.args.id.now renew_session c.in-Another.ensures c.refuse.result c.refuse.ensures

pub returns-in-Nobody : goal.returns-in-Nobody
returns-in-Nobody c =
    refuses_nobody c.requires c.args.id.now renew_session c.in-Nobody.ensures c.refuse-in-Nobody.result c.refuse-in-Nobody.ensures
