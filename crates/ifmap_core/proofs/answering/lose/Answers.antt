use Rattle.ifmap_core.proofs.InSession.{another_heard, ends_own_within, loses_own, no_ends, nobody_heard}
use Rattle.ifmap_core.proofs.answering.lose.Goals as goal

pub returns-in_ok-take_away_one-in-Own-clause-leads : goal.returns-in_ok-take_away_one-in-Own-clause-leads
returns-in_ok-take_away_one-in-Own-clause-leads g c =
    let e = c.in_ok-take_away_one-in-Own.ensures in
    loses_own c.requires c.args.id.now c.in-Own.serial c.in-Own.ensures c.take_away_one.new.parts c.take_away_one.new.pending
    e.changed.steady e.changed.ready e.changed.later.sessions e.bare e.told

pub returns-in-Another-clause-leads : goal.returns-in-Another-clause-leads
returns-in-Another-clause-leads g c = another_heard c.requires c.args.id.now c.in-Another.ensures

pub returns-in-Nobody-clause-leads : goal.returns-in-Nobody-clause-leads
returns-in-Nobody-clause-leads g c = nobody_heard c.requires c.args.id.now c.in-Nobody.ensures

pub returns-in_ok-take_away_one-in-Own-clause-steps : goal.returns-in_ok-take_away_one-in-Own-clause-steps
returns-in_ok-take_away_one-in-Own-clause-steps g c =
    ends_own_within c.requires c.args.id.now c.in-Own.serial c.in-Own.ensures c.args.steps.now c.take_away_one.new.steps
    c.take_away_one.ensures.steps

pub returns-in_err-take_away_one-in-Own-clause-steps : goal.returns-in_err-take_away_one-in-Own-clause-steps
returns-in_err-take_away_one-in-Own-clause-steps g c =
    ends_own_within c.requires c.args.id.now c.in-Own.serial c.in-Own.ensures c.args.steps.now c.take_away_one.new.steps
    c.take_away_one.ensures.steps

pub returns-in-Another-clause-steps : goal.returns-in-Another-clause-steps
returns-in-Another-clause-steps g c = no_ends c.requires c.args.id.now c.args.steps.now

pub returns-in-Nobody-clause-steps : goal.returns-in-Nobody-clause-steps
returns-in-Nobody-clause-steps g c = no_ends c.requires c.args.id.now c.args.steps.now
