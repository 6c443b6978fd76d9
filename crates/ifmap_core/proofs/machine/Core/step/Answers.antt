use Rattle.std.proofs.Common.{rules, ◌≡◌, ◌↔◌, ◌⊎◌, ◌∙◌, ap, subst, max, arith}
use Rattle.std.proofs.lemmas.Grind.{common_steps}
use Rattle.ifmap_core.specs.Causes.{AsksForNoneLeft, FindsTooMuch, HasNoRoomForName, IsLoss, IsRefusal, NamesAnothersSession, NamesNoSession, PollsNoSession, PollsNothing, PurgesAnother, state_for}
use Rattle.ifmap_core.proofs.Answered.{heard_where_lost, held_on_poll, of_answer, told_end}
use Rattle.ifmap_core.proofs.LaterParts.{back_state}
use Rattle.ifmap_core.proofs.Refusals.{access_denied, invalid_session, refusal_leaves, system_error, too_big}
use Rattle.ifmap_core.proofs.Spending.{within_advanced}
use Rattle.ifmap_core.proofs.machine.Core.step.Goals as goal
use Rattle.ifmap_ident.specs.declared.codes.Code.TheVariants.{AccessDenied, InvalidSessionID, SearchResultsTooBig, SystemError}
use Rattle.ifmap_lemmas.specs.Results.{on_err}
use Rattle.ifmap_subscribes.specs.ifmap_machine.declared.events.Answer.{Answer}
use Rattle.ifmap_subscribes.specs.ifmap_machine.declared.events.Answer.TheVariants as the_answer
use Rattle.ifmap_subscribes.specs.ifmap_machine.Events.{Event}
use Rattle.ifmap_subscribes.specs.ifmap_machine.State.{State}
use Rattle.ifmap_subscribes.specs.ifmap_replies.declared.replies.Reply.TheVariants as the_reply

pub returns-clause-answer : goal.returns-clause-answer
returns-clause-answer g c = first_of (search rules, grind (arith, common_steps))

pub returns-clause-refusal : goal.returns-clause-refusal
returns-clause-refusal g c = λ code refused.
    let completion = returns-clause-answer g c in
    ap (λ (p : State × Answer). p.0) completion
    ∙ refusal_leaves (state_for c.args.self.now c.args.event.now) c.args.event.now code c.args.event.now.ask
    (subst (IsRefusal code) (ap (λ (p : State × Answer). p.1) completion) refused)

pub returns-clause-invalid_session : goal.returns-clause-invalid_session
returns-clause-invalid_session g c =
    let state = state_for c.args.self.now c.args.event.now in
    of_answer (λ a. IsRefusal InvalidSessionID a ↔ NamesNoSession state c.args.event.now.again c.args.event.now.ask) _ _
    (returns-clause-answer g c) (invalid_session state c.args.event.now c.args.event.now.ask)

pub returns-clause-access_denied : goal.returns-clause-access_denied
returns-clause-access_denied g c =
    let state = state_for c.args.self.now c.args.event.now in
    of_answer (λ a. IsRefusal AccessDenied a ↔ (NamesAnothersSession state c.args.event.now.client c.args.event.now.ask
    ⊎ PurgesAnother state c.args.event.now.client c.args.event.now.ask)) _ _
    (returns-clause-answer g c) (access_denied state c.args.event.now c.args.event.now.ask)

pub returns-clause-system_error : goal.returns-clause-system_error
returns-clause-system_error g c =
    let state = state_for c.args.self.now c.args.event.now in
    of_answer (λ a. IsRefusal SystemError a ↔ (AsksForNoneLeft state c.args.event.now.client c.args.event.now.ask
    ⊎ HasNoRoomForName state c.args.event.now.client c.args.event.now.ask)) _ _
    (returns-clause-answer g c) (system_error state c.args.event.now c.args.event.now.ask)

pub returns-clause-too_big : goal.returns-clause-too_big
returns-clause-too_big g c =
    let state = state_for c.args.self.now c.args.event.now in
    of_answer (λ a. IsRefusal SearchResultsTooBig a ↔ FindsTooMuch state c.args.event.now.client c.args.event.now.ask) _ _
    (returns-clause-answer g c) (too_big state c.args.event.now c.args.event.now.ask)

pub returns-clause-held : goal.returns-clause-held
returns-clause-held g c =
    let state = state_for c.args.self.now c.args.event.now in
    of_answer (λ a. (a ≡ the_answer.Held) ↔ PollsNothing state c.args.event.now.client c.args.event.now.ask) _ _
    (returns-clause-answer g c) (held_on_poll state c.args.event.now c.args.event.now.ask)

pub returns-clause-heard : goal.returns-clause-heard
returns-clause-heard g c =
    of_answer (λ a. (a ≡ the_answer.Heard) ↔ IsLoss c.args.event.now.ask) _ _ (returns-clause-answer g c)
    (heard_where_lost (state_for c.args.self.now c.args.event.now) c.args.event.now c.args.event.now.ask)

pub returns-clause-told_end : goal.returns-clause-told_end
returns-clause-told_end g c = λ polls.
    let state = state_for c.args.self.now c.args.event.now in
    of_answer (λ a. (a ≡ the_answer.Reply the_reply.Ended) ↔ PollsNoSession state c.args.event.now.again c.args.event.now.ask) _ _
    (returns-clause-answer g c) (told_end state c.args.event.now c.args.event.now.ask polls)

pub returns-in_err-answer-clause-err : goal.returns-in_err-answer-clause-err
returns-in_err-answer-clause-err g c =
    on_err c.from_residual.result _
    (back_state c.self.inside.ttl c.self.inside.moment c.self.inside.parts c.answer_at.new.parts c.in_err-answer.ensures.kept
    ∙ c.self.view_is)

pub returns-in_err-answer-clause-steps : goal.returns-in_err-answer-clause-steps
returns-in_err-answer-clause-steps g c =
    within_advanced c.self.inside.ttl c.self.inside.moment c.later_moment-moment.result c.self.inside.parts c.args.self.now
    c.args.event.now c.self.view_is
    (c.later_moment-moment.ensures ∙ ap (λ (e : Event). max c.self.inside.moment e.moment) c.event.view_is) c.args.steps.now
    c.answer_at.new.steps c.answer_at.ensures.steps

pub returns-clause-steps : goal.returns-clause-steps
returns-clause-steps g c =
    within_advanced c.self.inside.ttl c.self.inside.moment c.later_moment-moment.result c.self.inside.parts c.args.self.now
    c.args.event.now c.self.view_is
    (c.later_moment-moment.ensures ∙ ap (λ (e : Event). max c.self.inside.moment e.moment) c.event.view_is) c.args.steps.now
    c.answer_at.new.steps c.answer_at.ensures.steps
