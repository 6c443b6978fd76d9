use Rattle.std.proofs.Common.{sym, ◌∙◌, ap, subst}
use Rattle.std.specs.Ordering.{nat_cmp}
use Rattle.ifmap_lemmas.specs.Rising.{nothing_rises}
use Rattle.ifmap_core.proofs.Exits.{gives_up}
use Rattle.ifmap_core.proofs.Expiring.{none_dropped}
use Rattle.ifmap_core.proofs.Spending.{ask_none}
use Rattle.ifmap_core.proofs.LaterParts.{back_itself}
use Rattle.ifmap_core.proofs.ending.answer_pending.Goals as goal
use Rattle.ifmap_core.specs.Bounds.{IsAskWithin}
use Rattle.ifmap_core.specs.Ending.{state_when}
use Rattle.ifmap_subscribes.specs.ifmap_machine.State.{State}
use Rattle.ifmap_subscribes.specs.ifmap_machine.Step.{step_ask}

pub pending_without-requires-clause-rising : goal.pending_without-requires-clause-rising
pending_without-requires-clause-rising g c = nothing_rises nat_cmp

pub returns-in_err-pending-clause-answers : goal.returns-in_err-pending-clause-answers
returns-in_err-pending-clause-answers g c =
    gives_up c.from_residual.result c.from_residual.ensures.0 (back_itself c.args.parts.now c.requires.steady)

pub returns-in_err-completion-clause-answers : goal.returns-in_err-completion-clause-answers
returns-in_err-completion-clause-answers g c =
    gives_up c.from_residual-in_err-completion.result c.from_residual-in_err-completion.ensures.0
    c.in_err-completion.ensures.change.kept.back

pub returns-clause-answers : goal.returns-clause-answers
returns-clause-answers g c = record {
  answer = sym c.finish.ensures.answer ∙ c.in_ok-completion.ensures.leads.leads
      ∙ ap (λ (s : State). step_ask s c.args.event.now c.args.event.now.ask) (c.in_ok-pending.ensures.state_now
      ∙ none_dropped (state_when c.args.time.now c.args.parts.now));
  kept = tt;
  parts = c.finish.ensures.parts;
  lean = λ rest l. c.finish.ensures.lean rest (c.in_ok-completion.ensures.change.later.lean rest l);
}

pub returns-in_err-pending-clause-steps : goal.returns-in_err-pending-clause-steps
returns-in_err-pending-clause-steps g c =
    ask_none (state_when c.args.time.now c.args.parts.now) c.args.event.now c.args.event.now.ask c.args.steps.now

pub returns-in_err-completion-clause-steps : goal.returns-in_err-completion-clause-steps
returns-in_err-completion-clause-steps g c =
    subst (λ (s : State). IsAskWithin s c.args.event.now c.args.event.now.ask c.args.steps.now c.answer.new.steps)
    (c.in_ok-pending.ensures.state_now ∙ none_dropped (state_when c.args.time.now c.args.parts.now)) c.answer.ensures.steps

pub returns-clause-steps : goal.returns-clause-steps
returns-clause-steps g c =
    subst (λ (s : State). IsAskWithin s c.args.event.now c.args.event.now.ask c.args.steps.now c.answer.new.steps)
    (c.in_ok-pending.ensures.state_now ∙ none_dropped (state_when c.args.time.now c.args.parts.now)) c.answer.ensures.steps
