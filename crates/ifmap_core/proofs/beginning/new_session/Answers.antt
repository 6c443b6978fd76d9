use Rattle.std.proofs.Common.{sym, ◌∙◌, refl}
use Rattle.ifmap_subscribes.specs.ifmap_changes.Between.{state_now}
use Rattle.ifmap_core.proofs.Begun.{full_leads}
use Rattle.ifmap_core.proofs.Exits.{stays_later_or_kept}
use Rattle.ifmap_core.proofs.Spending.{begun_none, begun_within}
use Rattle.ifmap_core.proofs.beginning.new_session.Goals as goal

pub begin-requires-clause-free : goal.begin-requires-clause-free
begin-requires-clause-free g c = sym (c.is_full.ensures.full c.args.parts.now c.args.pending.now refl) ∙ c.if-is_full.false

pub returns-then-is_full-clause-leads : goal.returns-then-is_full-clause-leads
returns-then-is_full-clause-leads g c =
    full_leads c.args.asking.now c.args.parts.now c.args.pending.now c.args.wish.random c.args.wish.limit c.refuse.result c.refuse.ensures
    c.requires (sym (c.is_full.ensures.full c.args.parts.now c.args.pending.now refl) ∙ c.if-is_full.true)

pub returns-then-is_full-clause-change : goal.returns-then-is_full-clause-change
returns-then-is_full-clause-change g c = stays_later_or_kept c.refuse.result c.args.parts.now c.requires.steady

pub returns-then-is_full-clause-steps : goal.returns-then-is_full-clause-steps
returns-then-is_full-clause-steps g c =
    begun_none (state_now c.args.asking.now c.args.parts.now c.args.pending.now) c.args.asking.now.client c.args.steps.now

pub returns-clause-steps : goal.returns-clause-steps
returns-clause-steps g c =
    begun_within (state_now c.args.asking.now c.args.parts.now c.args.pending.now) c.args.asking.now.client c.args.steps.now
    c.begin.new.steps
    (sym (c.is_full.ensures.full c.args.parts.now c.args.pending.now refl) ∙ c.if-is_full.false) c.begin.ensures.steps
