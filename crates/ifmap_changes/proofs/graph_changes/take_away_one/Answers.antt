use Rattle.std.proofs.Common.{◌≡◌, ◌≢◌, ℕ, List, [], ◌∷◌, ◌++◌, length, map, ◌∙◌, subst, ap}
use Rattle.std.proofs.lemmas.Result.{on_ok_weaker}
use Rattle.ifmap_changes.specs.Between.{state_now}
use Rattle.ifmap_changes.proofs.Spending.{ended_none, ended_within}
use Rattle.ifmap_changes.proofs.Taken.{flagged_state, flagged_ready}
use Rattle.ifmap_changes.proofs.graph_changes.take_away_one.Given as given
use Rattle.ifmap_changes.proofs.graph_changes.take_away_one.Goals as goal
use Rattle.ifmap_changes.proofs.graph_changes.take_away_one.Goals.{After-take_away}
use Rattle.ifmap_graph.specs.Seen.{rows_now}
use Rattle.ifmap_tellings.specs.ifmap_machine.Ending.{without_standing}
use Rattle.ifmap_tellings.specs.ifmap_machine.State.{State}
use Rattle.ifmap_tellings.specs.ifmap_machine.Telling.{overflow, tell}
use Rattle.ifmap_tellings.specs.ifmap_publish.declared.who.Who.TheVariants.{Sessions}
use Rattle.ifmap_tellings.specs.ifmap_publish.Retract.{retract}
use Rattle.ifmap_tellings.specs.ifmap_standing.declared.standing.Standing.{Standing}
use Rattle.ifmap_tellings.specs.ifmap_standing.Standing.{standing_of}
use Rattle.ifmap_tellings.specs.Tellings.{AllKept, kept_items}
use Rattle.ifmap_changes.specs.KeptLaws.{error_keeps}

-- the subscriptions of the session are gone
left_without_session : (g : given.Over) (c : After-take_away g)
    → map standing_of (kept_items c.flag_session.new.pending.gone.items c.args.parts.now.standing.items)
    ≡ without_standing (c.args.serial ∷ []) (map standing_of (kept_items c.args.pending.now.gone.items c.args.parts.now.standing.items))
left_without_session g c =
    subst (λ (l : List Standing). map standing_of (kept_items c.flag_session.new.pending.gone.items l)
    ≡ without_standing (c.args.serial ∷ []) (map standing_of (kept_items c.args.pending.now.gone.items l)))
    c.deref.ensures.value c.flag_session.ensures.flags.left

serials : (g : given.Over) (c : After-take_away g) → c.push.new.self.items ≡ c.args.serial ∷ []
serials g c = c.in_ok-push.ensures.items ∙ ap (λ (l : List ℕ). l ++ c.args.serial ∷ []) c.in_ok-serials.ensures.items

pub take_away-requires-clause-ready : goal.take_away-requires-clause-ready
take_away-requires-clause-ready g c =
    let flagged = c.flag_session.new.pending in
    flagged_ready c.args.asking.now c.args.parts.now c.args.pending.now flagged
    (subst (λ (l : List Standing). length flagged.gone.items ≡ length l) c.deref.ensures.value c.flag_session.ensures.flags.flags)
    c.flag_session.ensures.flags.stay c.flag_session.ensures.flags.tellings c.requires.ready

pub returns-clause-told : goal.returns-clause-told
returns-clause-told g c =
    let place = (goal.at.returns-clause-told g c).After-take_away in
    let flagged = c.flag_session.new.pending in
    let rows = retract (Sessions (c.args.serial ∷ [])) (rows_now c.args.parts.now.graph) in
    on_ok_weaker c.take_away.result (λ e. e
    ∙ ap (λ (l : List ℕ). overflow (tell (retract (Sessions l) (rows_now c.args.parts.now.graph)) []
    (state_now c.args.asking.now c.args.parts.now flagged))) (serials g place)
    ∙ ap (λ (s : State). overflow (tell rows [] s))
    (flagged_state (c.args.serial ∷ []) c.args.asking.now c.args.parts.now c.args.pending.now flagged (left_without_session g place)
    c.flag_session.ensures.flags.tellings)) c.take_away.ensures.takes.told

pub returns-clause-kept : goal.returns-clause-kept
returns-clause-kept g c = c.take_away.ensures.takes.kept

pub returns-clause-bare : goal.returns-clause-bare
returns-clause-bare g c =
    on_ok_weaker c.take_away.result (λ f. f c.args.serial
    (subst (λ (l : List Standing). AllKept (λ (x : Standing). x.serial ≢ c.args.serial) c.flag_session.new.pending.gone.items l)
    c.deref.ensures.value c.flag_session.ensures.bare)) c.take_away.ensures.bare

pub returns-in_err-serials-clause-kept : goal.returns-in_err-serials-clause-kept
returns-in_err-serials-clause-kept g c = error_keeps c.from_residual.result c.args.parts.now c.requires.steady

pub returns-in_err-serials-clause-steps : goal.returns-in_err-serials-clause-steps
returns-in_err-serials-clause-steps g c =
    ended_none c.args.serial (state_now c.args.asking.now c.args.parts.now c.args.pending.now) c.args.steps.now

pub returns-clause-steps : goal.returns-clause-steps
returns-clause-steps g c =
    let place = (goal.at.returns-clause-steps g c).After-take_away in
    let flagged = c.flag_session.new.pending in
    ended_within c.args.asking.now c.args.parts.now c.args.pending.now flagged c.args.serial c.push.new.self.items c.args.steps.now
    c.take_away.new.steps (serials g place) (left_without_session g place) c.take_away.ensures.steps
