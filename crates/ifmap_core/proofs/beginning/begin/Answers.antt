use Rattle.std.proofs.Common.{◌∙◌, ap}
use Rattle.ifmap_subscribes.specs.ifmap_changes.Between.{Asking, state_now}
use Rattle.ifmap_core.proofs.Begun.{begins, ready_with}
use Rattle.ifmap_core.proofs.Spending.{former_none, former_within}
use Rattle.ifmap_core.proofs.beginning.begin.Goals as goal

pub take_away_former-requires : goal.take_away_former-requires
take_away_former-requires g c = record {
  steady = c.requires.can.steady;
  ready = ready_with c.args.parts.now c.prepare.new.self c.prepare.ensures.same c.args.asking.now c.args.pending.now c.requires.can.ready;
}

pub returns-clause-leads : goal.returns-clause-leads
returns-clause-leads g c =
    let client = ap (λ (a : Asking). a.client) c.asking.view_is in
    begins c.args.asking.now c.args.parts.now c.take_away_former.new.parts c.args.pending.now c.take_away_former.new.pending
    c.args.wish.random c.args.wish.limit c.former_of-former.result c.in_ok-opening.opening c.in_ok-publisher.publisher c.limit_of.result
    c.limit_of.ensures
    (c.in_ok-opening.ensures.client ∙ client) (c.in_ok-publisher.ensures ∙ c.text.ensures.text ∙ client) c.in_ok-opening.ensures.serial
    c.in_ok-opening.ensures.id c.requires.next c.former_of-former.ensures.serial c.requires.free c.prepare.new.self c.is_table.ensures
    c.prepare.ensures.same c.in_ok-take_away_former.ensures.changed.later.sessions c.in_ok-opening.ensures.room
    c.former_of-former.ensures.live c.in_ok-take_away_former.ensures.told
    c.in_ok-take_away_former.ensures.changed.steady c.in_ok-take_away_former.ensures.changed.ready
    c.in_ok-take_away_former.ensures.bare

pub returns-in_err-opening-clause-steps : goal.returns-in_err-opening-clause-steps
returns-in_err-opening-clause-steps g c =
    former_none _ (state_now c.args.asking.now c.args.parts.now c.args.pending.now) c.args.steps.now

pub returns-in_err-publisher-clause-steps : goal.returns-in_err-publisher-clause-steps
returns-in_err-publisher-clause-steps g c =
    former_none _ (state_now c.args.asking.now c.args.parts.now c.args.pending.now) c.args.steps.now

pub returns-in_err-take_away_former-clause-steps : goal.returns-in_err-take_away_former-clause-steps
returns-in_err-take_away_former-clause-steps g c =
    former_within c.args.asking.now c.args.parts.now c.args.pending.now c.prepare.new.self c.prepare.ensures.same c.former_of-former.result
    c.args.steps.now c.take_away_former.new.steps c.former_of-former.ensures.serial c.take_away_former.ensures.steps

pub returns-clause-steps : goal.returns-clause-steps
returns-clause-steps g c =
    former_within c.args.asking.now c.args.parts.now c.args.pending.now c.prepare.new.self c.prepare.ensures.same c.former_of-former.result
    c.args.steps.now c.take_away_former.new.steps c.former_of-former.ensures.serial c.take_away_former.ensures.steps
