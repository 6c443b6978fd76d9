use Rattle.ifmap_core.proofs.InSession.{refuses_another, no_publishes, refuses_nobody, publishes_own, publishes_own_within}
use Rattle.ifmap_core.proofs.answering.publish.Goals as goal
use Rattle.ifmap_subscribes.specs.ifmap_machine.Step.{publish}

pub returns-in_ok-publish-in-Own-clause-leads : goal.returns-in_ok-publish-in-Own-clause-leads
returns-in_ok-publish-in-Own-clause-leads g c =
    let e = c.in_ok-publish-in-Own.ensures in
    publishes_own c.requires.can c.args.wish.now.id.now c.in-Own.serial c.in-Own.ensures c.publish.new.parts c.publish.new.pending
    e.changed.steady e.changed.ready e.changed.later.sessions c.args.wish.now.asked.now e.told

pub returns-in-Another-clause-leads : goal.returns-in-Another-clause-leads
returns-in-Another-clause-leads g c =
    refuses_another c.requires.can c.args.wish.now.id.now (λ state. publish state c.args.wish.now.asked.now) c.in-Another.ensures
    c.refuse.result c.refuse.ensures

pub returns-in-Nobody-clause-leads : goal.returns-in-Nobody-clause-leads
returns-in-Nobody-clause-leads g c =
    refuses_nobody c.requires.can c.args.wish.now.id.now (λ state. publish state c.args.wish.now.asked.now) c.in-Nobody.ensures
    c.refuse-in-Nobody.result c.refuse-in-Nobody.ensures

pub returns-in_ok-publish-in-Own-clause-steps : goal.returns-in_ok-publish-in-Own-clause-steps
returns-in_ok-publish-in-Own-clause-steps g c =
    publishes_own_within c.requires.can c.args.wish.now.id.now c.in-Own.serial c.in-Own.ensures c.args.steps.now c.publish.new.steps
    c.args.wish.now.asked.now c.publish.ensures.steps

pub returns-in_err-publish-in-Own-clause-steps : goal.returns-in_err-publish-in-Own-clause-steps
returns-in_err-publish-in-Own-clause-steps g c =
    publishes_own_within c.requires.can c.args.wish.now.id.now c.in-Own.serial c.in-Own.ensures c.args.steps.now c.publish.new.steps
    c.args.wish.now.asked.now c.publish.ensures.steps

pub returns-in-Another-clause-steps : goal.returns-in-Another-clause-steps
returns-in-Another-clause-steps g c = no_publishes c.requires.can c.args.wish.now.id.now c.args.steps.now c.args.wish.now.asked.now

pub returns-in-Nobody-clause-steps : goal.returns-in-Nobody-clause-steps
returns-in-Nobody-clause-steps g c = no_publishes c.requires.can c.args.wish.now.id.now c.args.steps.now c.args.wish.now.asked.now
