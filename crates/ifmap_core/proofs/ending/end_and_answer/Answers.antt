use Rattle.std.proofs.Common.{◌≡◌, sym, ◌∙◌, subst, List, ℕ}
use Rattle.std.proofs.lemmas.Result.{on_err_weaker, on_ok_weaker}
use Rattle.std.specs.List.Sorted.{IsStrictlySortedBy}
use Rattle.std.specs.Ordering.{nat_cmp}
use Rattle.std.specs.Result.{IfOk}
use Rattle.ifmap_subscribes.specs.ifmap_changes.Between.{AreBack, CanEnd}
use Rattle.ifmap_core.proofs.Ended.{expired_end}
use Rattle.ifmap_core.proofs.Exits.{gives_up}
use Rattle.ifmap_core.proofs.Expiring.{expired_rise, expires_by}
use Rattle.ifmap_core.proofs.Spending.{ask_none, event_expired, event_none}
use Rattle.ifmap_core.proofs.LaterParts.{back_itself}
use Rattle.ifmap_core.proofs.ending.end_and_answer.Given as given
use Rattle.ifmap_core.proofs.ending.end_and_answer.Goals as goal
use Rattle.ifmap_core.proofs.ending.end_and_answer.Goals.{After-take_away_kept}
use Rattle.ifmap_core.specs.Bounds.{IsAskWithin, IsEventWithin}
use Rattle.ifmap_core.specs.Ending.{state_when}
use Rattle.ifmap_subscribes.specs.ifmap_machine.Ending.{expire}
use Rattle.ifmap_subscribes.specs.ifmap_machine.declared.events.Answer.{Answer}
use Rattle.ifmap_subscribes.specs.ifmap_machine.State.{State}
use Rattle.ifmap_subscribes.specs.ifmap_machine.Step.{step_ask}

-- the steps of the event, by those of what is asked once the sessions have ended
spent : (g : given.Over) (c : After-take_away_kept g) (after : ℕ)
    → IsAskWithin (expire (state_when c.args.time.now c.args.parts.now)) c.args.event.now c.args.event.now.ask
    c.take_away_kept.new.steps after
    → IsEventWithin (state_when c.args.time.now c.args.parts.now) c.args.event.now c.args.steps.now after
spent g c after asked =
    let listed = c.as_slice.ensures in
    event_expired (state_when c.args.time.now c.args.parts.now) c.args.event.now c.as_slice.result.now c.in_ok-copy.field-0 c.requires.some
    (listed ∙ c.in_ok-serials.ensures) (c.in_ok-copy.ensures ∙ sym listed) _ c.in_ok-pending.ensures.state_now c.args.steps.now
    c.take_away_kept.new.steps after c.take_away_kept.ensures.steps asked

pub pending_without-requires-clause-ended : goal.pending_without-requires-clause-ended
pending_without-requires-clause-ended g c =
    subst (λ (ns : List ℕ). CanEnd ns c.args.parts.now.sessions.live)
    (sym (c.as_slice.ensures ∙ c.in_ok-serials.ensures))
    (expired_end c.args.time.now.moment c.args.time.now.ttl c.args.parts.now.sessions.live c.is_table.ensures.rising)

pub pending_without-requires-clause-rising : goal.pending_without-requires-clause-rising
pending_without-requires-clause-rising g c =
    subst (IsStrictlySortedBy nat_cmp) (sym (c.as_slice.ensures ∙ c.in_ok-serials.ensures))
    (expired_rise c.args.time.now.moment c.args.time.now.ttl c.args.parts.now.sessions.live c.is_table.ensures.rising)

pub answer_ended-requires-clause-can : goal.answer_ended-requires-clause-can
answer_ended-requires-clause-can g c =
    let e = c.in_ok-made.ensures.ways.changed in record { steady = e.steady; ready = e.ready }

pub answer_ended-requires-clause-back : goal.answer_ended-requires-clause-back
answer_ended-requires-clause-back g c =
    let e = c.in_ok-made.ensures.ways in (c.args.parts.now, c.requires.parts, e.numbers, e.back)

pub returns-in_err-serials-clause-answers : goal.returns-in_err-serials-clause-answers
returns-in_err-serials-clause-answers g c =
    gives_up c.from_residual.result c.from_residual.ensures.0 (back_itself c.args.parts.now c.requires.parts.steady)

pub returns-in_err-copy-clause-answers : goal.returns-in_err-copy-clause-answers
returns-in_err-copy-clause-answers g c =
    gives_up c.from_residual-in_err-copy.result c.from_residual-in_err-copy.ensures.0 (back_itself c.args.parts.now c.requires.parts.steady)

pub returns-in_err-pending-clause-answers : goal.returns-in_err-pending-clause-answers
returns-in_err-pending-clause-answers g c =
    gives_up c.from_residual-in_err-pending.result c.from_residual-in_err-pending.ensures.0
    (back_itself c.args.parts.now c.requires.parts.steady)

pub returns-in_err-made-clause-answers : goal.returns-in_err-made-clause-answers
returns-in_err-made-clause-answers g c =
    gives_up c.from_residual-in_err-made.result c.from_residual-in_err-made.ensures.0 c.in_err-made.ensures.takes.kept.back

pub returns-clause-answers : goal.returns-clause-answers
returns-clause-answers g c =
    let old = c.args.parts.now in
    let listed = c.as_slice.ensures in
    record {
      answer = subst (λ (s : State). IfOk c.answer_ended.result (λ answer. ◌≡◌ {A = State × Answer}
          (state_when c.args.time.now c.answer_ended.new.parts, answer) (step_ask s c.args.event.now c.args.event.now.ask)))
          (expires_by (state_when c.args.time.now old) c.as_slice.result.now c.in_ok-copy.field-0 c.requires.some
          (listed ∙ c.in_ok-serials.ensures) (c.in_ok-copy.ensures ∙ sym listed) _ _ c.in_ok-pending.ensures.state_now
          c.in_ok-made.ensures.takes.told) c.answer_ended.ensures.answer;
      kept = on_err_weaker {Q = AreBack old c.answer_ended.new.parts} c.answer_ended.result
          (λ f. f old c.requires.parts c.in_ok-made.ensures.ways.numbers c.in_ok-made.ensures.ways.back) c.answer_ended.ensures.kept;
      parts = c.answer_ended.ensures.parts;
      lean = on_ok_weaker c.answer_ended.result (λ f. f old c.in_ok-made.ensures.ways.back) c.answer_ended.ensures.lean;
    }

pub returns-in_err-serials-clause-steps : goal.returns-in_err-serials-clause-steps
returns-in_err-serials-clause-steps g c =
    event_none (state_when c.args.time.now c.args.parts.now) c.args.event.now c.args.steps.now

pub returns-in_err-copy-clause-steps : goal.returns-in_err-copy-clause-steps
returns-in_err-copy-clause-steps g c =
    event_none (state_when c.args.time.now c.args.parts.now) c.args.event.now c.args.steps.now

pub returns-in_err-pending-clause-steps : goal.returns-in_err-pending-clause-steps
returns-in_err-pending-clause-steps g c =
    event_none (state_when c.args.time.now c.args.parts.now) c.args.event.now c.args.steps.now

pub returns-in_err-made-clause-steps : goal.returns-in_err-made-clause-steps
returns-in_err-made-clause-steps g c =
    spent g (goal.at.returns-in_err-made-clause-steps g c).After-take_away_kept c.take_away_kept.new.steps
    (ask_none (expire (state_when c.args.time.now c.args.parts.now)) c.args.event.now c.args.event.now.ask c.take_away_kept.new.steps)

pub returns-clause-steps : goal.returns-clause-steps
returns-clause-steps g c =
    let before = state_when c.args.time.now c.args.parts.now in
    let listed = c.as_slice.ensures in
    spent g (goal.at.returns-clause-steps g c).After-take_away_kept c.answer_ended.new.steps
    (subst (λ (s : State). IsAskWithin s c.args.event.now c.args.event.now.ask c.take_away_kept.new.steps c.answer_ended.new.steps)
    (expires_by before c.as_slice.result.now c.in_ok-copy.field-0 c.requires.some (listed ∙ c.in_ok-serials.ensures)
    (c.in_ok-copy.ensures ∙ sym listed) _ _ c.in_ok-pending.ensures.state_now c.in_ok-made.ensures.takes.told) c.answer_ended.ensures.steps)
