use Rattle.std.proofs.Common.{sym, ◌∙◌, subst}
use Rattle.ifmap_core.proofs.Expiring.{expires_none}
use Rattle.ifmap_core.proofs.Spending.{event_unexpired}
use Rattle.ifmap_core.proofs.ending.answer_once.Goals as goal
use Rattle.ifmap_core.specs.Ending.{AnswersEvent, state_when}
use Rattle.ifmap_subscribes.specs.ifmap_machine.State.{State}

pub returns-clause-answers : goal.returns-clause-answers
returns-clause-answers g c =
    subst (λ (s : State). AnswersEvent c.answer_all.result c.args.time.now s c.args.event.now c.args.parts.now c.answer_all.new.parts)
    (sym (expires_none (state_when c.args.time.now c.args.parts.now) (sym c.any_expired.ensures ∙ c.if-any_expired.false)))
    c.answer_all.ensures.answers

pub returns-clause-steps : goal.returns-clause-steps
returns-clause-steps g c =
    let before = state_when c.args.time.now c.args.parts.now in
    event_unexpired before c.args.event.now c.args.steps.now c.answer_all.new.steps
    (expires_none before (sym c.any_expired.ensures ∙ c.if-any_expired.false)) c.answer_all.ensures.steps
