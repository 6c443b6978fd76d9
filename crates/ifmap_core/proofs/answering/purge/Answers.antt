use Rattle.std.proofs.Common.{◌≡◌, ◌∙◌, ap, sym, true, false}
use Rattle.ifmap_session.specs.Sessions.{Session, is_same_text}
use Rattle.ifmap_subscribes.specs.ifmap_changes.Between.{Asking}
use Rattle.ifmap_subscribes.specs.ifmap_changes.Bounds.{IsTakenWithin}
use Rattle.ifmap_core.specs.Answering.{IsCaseWithin}
use Rattle.ifmap_core.specs.Bounds.{IsWithinIf}
use Rattle.ifmap_core.proofs.InSession.{refuses_another, no_purges, refuses_nobody, purges_not_own, purges_own, purges_own_within}
use Rattle.ifmap_core.proofs.answering.purge.Given as given
use Rattle.ifmap_core.proofs.answering.purge.Goals as goal
use Rattle.ifmap_core.proofs.answering.purge.Goals.{After-take_away}
use Rattle.ifmap_subscribes.specs.ifmap_machine.State.{State}
use Rattle.ifmap_subscribes.specs.ifmap_machine.Step.{purge}
use Rattle.ifmap_subscribes.specs.ifmap_publish.declared.who.Who.TheVariants.{Publisher}

-- the steps of the change, whether there is memory or not
spent : (g : given.Over) (c : After-take_away g)
    → IsCaseWithin c.args.wish.now.id.now
    (λ (before : State) (s : Session). IsWithinIf (is_same_text c.args.wish.now.asked.now s.client)
    (IsTakenWithin (Publisher c.args.wish.now.asked.now) before))
    c.args.asking.now c.args.parts.now c.args.pending.now c.args.steps.now c.take_away.new.steps
spent g c =
    let client = ap (λ (x : Asking). x.client) c.asking.view_is in
    purges_own_within c.requires c.args.wish.now.id.now c.in-Own.serial c.in-Own.ensures c.args.steps.now c.take_away.new.steps
    c.args.wish.now.asked.now _ (c.equals.ensures.0 c.if-not-equals.false ∙ c.text.ensures.text ∙ client)
    (c.in_ok-copy-in-Own.ensures ∙ client) c.take_away.ensures.steps

pub returns-in_ok-take_away-in-Own-clause-leads : goal.returns-in_ok-take_away-in-Own-clause-leads
returns-in_ok-take_away-in-Own-clause-leads g c =
    let e = c.in_ok-take_away-in-Own.ensures in
    let client = ap (λ (x : Asking). x.client) c.asking.view_is in
    purges_own c.requires c.args.wish.now.id.now c.in-Own.serial c.in-Own.ensures c.take_away.new.parts c.take_away.new.pending
    e.changed.steady e.changed.ready e.changed.later.sessions c.args.wish.now.asked.now _
    (c.equals.ensures.0 c.if-not-equals.false ∙ c.text.ensures.text ∙ client) (c.in_ok-copy-in-Own.ensures ∙ client) e.takes.told

pub returns-then-not-equals-clause-leads : goal.returns-then-not-equals-clause-leads
returns-then-not-equals-clause-leads g c =
    let client = ap (λ (x : Asking). x.client) c.asking.view_is in
    purges_not_own c.requires c.args.wish.now.id.now c.in-Own.serial c.in-Own.ensures c.args.wish.now.asked.now
    (λ own. let bad : true ≡ false = sym (c.equals.ensures.1 (own ∙ sym (c.text.ensures.text ∙ client)))
    ∙ c.if-not-equals.true in cc) c.refuse.result c.refuse.ensures

pub returns-in-Another-clause-leads : goal.returns-in-Another-clause-leads
returns-in-Another-clause-leads g c =
    refuses_another c.requires c.args.wish.now.id.now (λ state. purge state c.args.wish.now.asked.now) c.in-Another.ensures
    c.refuse-in-Another.result c.refuse-in-Another.ensures

pub returns-in-Nobody-clause-leads : goal.returns-in-Nobody-clause-leads
returns-in-Nobody-clause-leads g c =
    refuses_nobody c.requires c.args.wish.now.id.now (λ state. purge state c.args.wish.now.asked.now) c.in-Nobody.ensures
    c.refuse-in-Nobody.result c.refuse-in-Nobody.ensures

pub returns-in_ok-take_away-in-Own-clause-steps : goal.returns-in_ok-take_away-in-Own-clause-steps
returns-in_ok-take_away-in-Own-clause-steps g c = spent g (goal.at.returns-in_ok-take_away-in-Own-clause-steps g c).After-take_away

pub returns-in_err-take_away-in-Own-clause-steps : goal.returns-in_err-take_away-in-Own-clause-steps
returns-in_err-take_away-in-Own-clause-steps g c = spent g (goal.at.returns-in_err-take_away-in-Own-clause-steps g c).After-take_away

pub returns-in_err-copy-in-Own-clause-steps : goal.returns-in_err-copy-in-Own-clause-steps
returns-in_err-copy-in-Own-clause-steps g c = no_purges c.requires c.args.wish.now.id.now c.args.steps.now c.args.wish.now.asked.now

pub returns-then-not-equals-clause-steps : goal.returns-then-not-equals-clause-steps
returns-then-not-equals-clause-steps g c = no_purges c.requires c.args.wish.now.id.now c.args.steps.now c.args.wish.now.asked.now

pub returns-in-Another-clause-steps : goal.returns-in-Another-clause-steps
returns-in-Another-clause-steps g c = no_purges c.requires c.args.wish.now.id.now c.args.steps.now c.args.wish.now.asked.now

pub returns-in-Nobody-clause-steps : goal.returns-in-Nobody-clause-steps
returns-in-Nobody-clause-steps g c = no_purges c.requires c.args.wish.now.id.now c.args.steps.now c.args.wish.now.asked.now
