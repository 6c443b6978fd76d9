use Rattle.std.proofs.Common.{sym, ◌∙◌, ap, subst}
use Rattle.ifmap_subscribes.specs.ifmap_changes.Between.{IsSteady, state_now}
use Rattle.ifmap_core.proofs.Cases.{accepts, live_after}
use Rattle.ifmap_core.proofs.Exits.{keeps}
use Rattle.ifmap_core.proofs.Subscribed.{overruns}
use Rattle.ifmap_core.proofs.LaterParts.{kept_room, later_in_room}
use Rattle.ifmap_core.proofs.subscribing.overrun.Goals as goal
use Rattle.ifmap_core.specs.Completions.{state_with_error}
use Rattle.ifmap_subscribes.specs.ifmap_machine.declared.events.Answer.TheVariants as the_answer
use Rattle.ifmap_subscribes.specs.ifmap_machine.State.{State}
use Rattle.ifmap_subscribes.specs.ifmap_replies.declared.replies.Reply.TheVariants as the_reply
use Rattle.ifmap_subscribes.specs.ifmap_tellings.Tellings.{HasSameSessions}

pub returns-clause-leads : goal.returns-clause-leads
returns-clause-leads c = λ s e.
    let a = c.args.asking.now in
    let new = c.tell_over.new.parts in
    accepts a new c.tell_over.new.pending
    (subst (λ h. IsSteady h new.standing.items) (sym c.tell_over.ensures.graph)
    (subst (λ v. IsSteady c.let_go.new.parts.graph v.items)
    (sym c.tell_over.ensures.standing) c.let_go.ensures.steady)) c.in_ok-tell_over.ensures.ready c.args.serial
    (the_answer.Reply the_reply.Subscribed) _
    (live_after a c.args.serial c.args.parts.now.sessions new.sessions
    (subst (λ t. HasSameSessions t new.sessions) c.let_go.ensures.sessions c.tell_over.ensures.sessions) c.requires.ops.live)
    (overruns a c.args.parts.now c.args.pending.now c.args.serial c.args.readying c.is_table.ensures.rising c.requires.ops.readied
    c.requires.ops.ready c.requires.over s e (state_now a new c.tell_over.new.pending) (c.in_ok-tell_over.ensures.told
    ∙ ap (λ (st : State). state_with_error c.args.serial c.args.readying.size st) c.let_go.ensures.state_now))

pub returns-clause-change : goal.returns-clause-change
returns-clause-change c = record {
  later = later_in_room c.args.parts.now c.let_go.new.parts c.tell_over.new.parts c.let_go.ensures.later c.tell_over.ensures.graph
      (ap (λ v. v.items) c.tell_over.ensures.standing) c.tell_over.ensures.sessions;
  kept = tt;
}

pub returns-in_err-tell_over-clause-change : goal.returns-in_err-tell_over-clause-change
returns-in_err-tell_over-clause-change c =
    keeps c.from_residual.result c.from_residual.ensures.0
    (kept_room c.args.parts.now c.let_go.new.parts c.tell_over.new.parts c.let_go.ensures.kept c.tell_over.ensures.graph
    (ap (λ v. v.items) c.tell_over.ensures.standing) c.tell_over.ensures.sessions)
