-- What an answer of a hall leaves at a desk over a pass.
use Rattle.std.proofs.Common.{◌≡◌, ◌↔◌, refl, sym, ap, subst, ◌∙◌, ℕ, true, [], ◌∷◌, append-nil, map, Some}
use Rattle.std.proofs.lemmas.List.{map-append}
use Rattle.ifmap_core.specs.EmptyPolls.{WouldHold}
use Rattle.ifmap_desks.specs.Answers.{plain_answer}
use Rattle.ifmap_desks.specs.Calls.{plain_call}
use Rattle.ifmap_desks.specs.Holding.{would_hold}
use Rattle.ifmap_desks.specs.Machines.{CoreView, core_holds, core_next, core_reply}
use Rattle.ifmap_desks.specs.declared.events.FitEvent.{FitEvent}
use Rattle.ifmap_desks.proofs.BookTurns.{held_polls}
use Rattle.ifmap_dialogue.specs.Desks.{FitsAsked, FitsAnswer, Gains, call_of}
use Rattle.ifmap_hall.specs.HallAsks.{AnsweredFromHistory}
use Rattle.ifmap_hall.specs.Sights.{run}
use Rattle.ifmap_hall.specs.declared.book.Asked.{Asked}
use Rattle.ifmap_hall.specs.declared.book.Asked.TheVariants.{Done, Held, Spent, NoMemory}
use Rattle.ifmap_dialogue.specs.ifmap_machine.declared.events.Answer.{Answer}
use Rattle.ifmap_dialogue.specs.ifmap_machine.Events.{Event}
use Rattle.ifmap_dialogue.specs.ifmap_machine.State.{State}
use Rattle.ifmap_dialogue.specs.ifmap_machine.Step.{step}

module _ (v w : CoreView) (number : ℕ) (event : FitEvent) where
  pub gains : (given : Asked FitEvent Answer) → AnsweredFromHistory core_next core_holds core_reply v w number event given
      → Gains (Some (map plain_call v.said)) (Some (map plain_call w.said)) (call_of event.event (plain_answer given))
  gains (Done place r) a =
      (map plain_call v.said, refl, ap (map plain_call) a.said ∙ map-append plain_call v.said ((event, r) ∷ []))
  gains (Held place back) a = (map plain_call v.said, refl, ap (map plain_call) a.4.said ∙ sym (append-nil (map plain_call v.said)))
  gains (Spent entries back) a = (map plain_call v.said, refl, ap (map plain_call) a.3.said ∙ sym (append-nil (map plain_call v.said)))
  gains (NoMemory back) a = (map plain_call v.said, refl, ap (map plain_call) a.3.said ∙ sym (append-nil (map plain_call v.said)))

  module _ (holding : (state : State) (e : Event) → would_hold state e ≡ true ↔ WouldHold state e)
      (fitting : (state : State) (e : Event) → FitsAnswer e (step state e).1) where
    pub fits : (given : Asked FitEvent Answer) → AnsweredFromHistory core_next core_holds core_reply v w number event given
        → FitsAsked event.event (plain_answer given)
    fits (Done place r) a =
        subst (FitsAnswer event.event) (sym a.reply_is) (fitting (run core_next v.terms.opening.value a.before).core event.event)
    fits (Held place back) a = (
      held_polls (run core_next v.terms.opening.value w.history.log).core event.event
          (holding (run core_next v.terms.opening.value w.history.log).core event.event) a.3,
      ap (λ (e : FitEvent). e.event) a.0,
    )
    fits (Spent entries back) a = ap (λ (e : FitEvent). e.event) a.0
    fits (NoMemory back) a = ap (λ (e : FitEvent). e.event) a.0
