use Rattle.ifmap_core.proofs.InSession.{refuses_another, no_subscribes, refuses_nobody, subscribes_own, subscribes_own_within}
use Rattle.ifmap_core.proofs.answering.subscribe.Goals as goal
use Rattle.ifmap_subscribes.specs.ifmap_machine.Step.{subscribe}

pub returns-in-Another-clause-leads : goal.returns-in-Another-clause-leads
returns-in-Another-clause-leads g c =
    refuses_another c.requires.can c.args.wish.now.id.now (λ state. subscribe state c.args.wish.now.asked.now) c.in-Another.ensures
    c.refuse.result c.refuse.ensures

pub returns-in-Nobody-clause-leads : goal.returns-in-Nobody-clause-leads
returns-in-Nobody-clause-leads g c =
    refuses_nobody c.requires.can c.args.wish.now.id.now (λ state. subscribe state c.args.wish.now.asked.now) c.in-Nobody.ensures
    c.refuse-in-Nobody.result c.refuse-in-Nobody.ensures

pub returns-in-Own-clause-leads : goal.returns-in-Own-clause-leads
returns-in-Own-clause-leads g c =
    subscribes_own c.requires.can c.args.wish.now.id.now c.in-Own.serial c.in-Own.ensures c.args.wish.now.asked.now c.subscribe_in.result
    c.subscribe_in.new.parts c.subscribe_in.new.pending c.subscribe_in.ensures.leads

pub returns-in-Own-clause-steps : goal.returns-in-Own-clause-steps
returns-in-Own-clause-steps g c =
    subscribes_own_within c.requires.can c.args.wish.now.id.now c.in-Own.serial c.in-Own.ensures c.args.steps.now
    c.subscribe_in.new.steps c.args.wish.now.asked.now c.subscribe_in.ensures.steps

pub returns-in-Another-clause-steps : goal.returns-in-Another-clause-steps
returns-in-Another-clause-steps g c = no_subscribes c.requires.can c.args.wish.now.id.now c.args.steps.now c.args.wish.now.asked.now

pub returns-in-Nobody-clause-steps : goal.returns-in-Nobody-clause-steps
returns-in-Nobody-clause-steps g c = no_subscribes c.requires.can c.args.wish.now.id.now c.args.steps.now c.args.wish.now.asked.now
