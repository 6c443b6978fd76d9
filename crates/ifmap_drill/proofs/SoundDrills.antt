-- The history of a drill is legal, its events are fit, and the ids that it keeps are of characters.
use Rattle.std.proofs.Common.{◌≡◌, ℕ, ◌+◌, ◌%◌, zero, suc, true, List, [], ◌∷◌, ◌++◌, refl, sym, ap, ◌∙◌, subst, arith, inl, inr}
use Rattle.std.specs.Prelude.{Option, None, slice_get, unwrap_or, nat_lt, if◌then◌else◌}
use Rattle.std.specs.List.{AllByRecursion}
use Rattle.std.proofs.lemmas.Bool.{cases_Bool}
use Rattle.ifmap_elem.specs.Chars.{IsCharacters}
use Rattle.ifmap_elem.specs.laws.CharacterLaws.{no_characters}
use Rattle.ifmap_lemmas.specs.Members.{both_all}
use Rattle.ifmap_core.specs.ifmap_machine.declared.events.Answer.{Answer}
use Rattle.ifmap_core.specs.ifmap_machine.declared.events.Ask.{Ask}
use Rattle.ifmap_core.specs.ifmap_machine.declared.events.Ask.TheVariants.{Request}
use Rattle.ifmap_core.specs.ifmap_machine.Ending.{expire}
use Rattle.ifmap_core.specs.ifmap_machine.Events.{Event, IsFitEvent}
use Rattle.ifmap_core.specs.ifmap_machine.Legal.{AreFit, History, Legal, LegalFrom, state_after, state_from}
use Rattle.ifmap_core.specs.ifmap_machine.State.{State, advance, opening_state, session_seconds}
use Rattle.ifmap_core.specs.ifmap_machine.Step.{is_full, new_session, step, step_ask}
use Rattle.ifmap_meta.specs.Whole.{IsMetadata}
use Rattle.ifmap_requests.specs.declared.requests.Request.TheVariants.{NewSession}
use Rattle.ifmap_drill.specs.declared.tasks.Task.TheVariants.{Begin}
use Rattle.ifmap_drill.specs.Drills.{Drilling, after_event, asked_at, drilling_after, id_given}
use Rattle.ifmap_drill.specs.Events.{event_at}
use Rattle.ifmap_drill.specs.Extent.{client_count}
use Rattle.ifmap_drill.specs.Parts.{link_metadata}
use Rattle.ifmap_drill.specs.Requests.{request_by, session_of}
use Rattle.ifmap_drill.specs.Tasks.{task_at}
use Rattle.ifmap_drill.proofs.ClientNames.{name_is}
use Rattle.ifmap_drill.proofs.FitRequests.{AddressesAreIdentifiers, request_fit}
use Rattle.ifmap_core.specs.ifmap_session.laws.IdLaws.{id_characters}

-- ---- a history with one event more

legal_more : (state : State) (history : History) (event : Event) → LegalFrom state history
    → LegalFrom state (history ++ (event, (step (state_from state history) event).1) ∷ [])
legal_more state [] event is = (refl, tt)
legal_more state (e ∷ history) event is = (is.0, legal_more (step state e.0).0 history event is.1)

state_more : (state : State) (history : History) (event : Event) (answer : Answer)
    → state_from state (history ++ (event, answer) ∷ []) ≡ (step (state_from state history) event).0
state_more state [] event answer = refl
state_more state (e ∷ history) event answer = state_more (step state e.0).0 history event answer

-- ---- ids

member_characters : (ids : List (List ℕ)) (n : ℕ) → AllByRecursion IsCharacters ids → IsCharacters (unwrap_or (slice_get ids n) [])
member_characters [] n fit = no_characters
member_characters (id ∷ ids) zero fit = fit.0
member_characters (id ∷ ids) (suc n) fit = member_characters ids n fit.1

pub session_characters : (client : ℕ) (ids : List (List ℕ)) → AllByRecursion IsCharacters ids → IsCharacters (session_of client ids)
session_characters client ids fit = member_characters ids client fit

begun_characters : (state : State) (client : List ℕ) (random : ℕ) (limit : Option ℕ)
    → IsCharacters (id_given (new_session state client random limit).1)
begun_characters state client random limit = elim (cases_Bool (is_full state client)) [
  | inl e ↦ rw e no_characters
  | inr e ↦ rw e (id_characters (state.counter + 1) random)
]

given_characters : (state : State) (event : Event) (limit : Option ℕ) → event.ask ≡ Request (NewSession limit)
    → IsCharacters (id_given (step state event).1)
given_characters state event limit is =
    subst (λ (ask : Ask). IsCharacters (id_given (step_ask (expire (advance event.moment state)) event ask).1)) (sym is)
    (begun_characters (expire (advance event.moment state)) event.client event.random limit)

early_task : (i : ℕ) → nat_lt i client_count ≡ true → task_at i ≡ Begin
early_task i early = rw early refl

early_ask : (i : ℕ) (d : Drilling) → nat_lt i client_count ≡ true → (event_at i (asked_at i d).0).ask ≡ Request (NewSession None)
early_ask i d early =
    ap (λ task. Request (request_by task (i % 10) (session_of (i % 10) d.ids) d.draws).0) (early_task i early)

next_ids : (i : ℕ) (d : Drilling) → AllByRecursion IsCharacters d.ids → AllByRecursion IsCharacters (after_event i d).ids
next_ids i d fit = elim (cases_Bool (nat_lt i client_count)) [
  | inl e ↦
      let given = given_characters d.state (event_at i (asked_at i d).0) None (early_ask i d e) in
      subst (λ early. AllByRecursion IsCharacters
      (if early then d.ids ++ id_given (step d.state (event_at i (asked_at i d).0)).1 ∷ [] else d.ids)) (sym e)
      (both_all IsCharacters d.ids (id_given (step d.state (event_at i (asked_at i d).0)).1 ∷ []) fit (given, tt))
  | inr e ↦
      subst (λ early. AllByRecursion IsCharacters
      (if early then d.ids ++ id_given (step d.state (event_at i (asked_at i d).0)).1 ∷ [] else d.ids)) (sym e) fit
]

pub kept_characters : (key count : ℕ) → AllByRecursion IsCharacters (drilling_after key count).ids
kept_characters key zero = tt
kept_characters key (suc n) = next_ids n (drilling_after key n) (kept_characters key n)

-- ---- histories

pub record IsSound (d : Drilling) : Type 0 where
  pub legal : Legal session_seconds d.history
  pub state : d.state ≡ state_after session_seconds d.history
  pub fit : AreFit d.history

module _ (macs : AddressesAreIdentifiers) (metadata : IsMetadata link_metadata) where
  pub event_fit : (i : ℕ) (d : Drilling) → AllByRecursion IsCharacters d.ids → IsFitEvent (event_at i (asked_at i d).0)
  event_fit i d fit = record {
    client = name_is (i % 10) (omega arith);
    ask = request_fit macs metadata (task_at i) (i % 10) (session_of (i % 10) d.ids) d.draws (omega arith)
        (session_characters (i % 10) d.ids fit);
  }

  next_sound : (i : ℕ) (d : Drilling) → AllByRecursion IsCharacters d.ids → IsSound d → IsSound (after_event i d)
  next_sound i d ids sound =
      let event = event_at i (asked_at i d).0 in
      let start = opening_state session_seconds in record {
        legal = subst (λ (s : State). LegalFrom start (d.history ++ (event, (step s event).1) ∷ [])) (sym sound.state)
            (legal_more start d.history event sound.legal);
        state = ap (λ (s : State). (step s event).0) sound.state
            ∙ sym (state_more start d.history event (step d.state event).1);
        fit = both_all (λ e. IsFitEvent e.0) d.history ((event, (step d.state event).1) ∷ []) sound.fit (event_fit i d ids, tt);
      }

  pub drill_sound : (key count : ℕ) → IsSound (drilling_after key count)
  drill_sound key zero = record { legal = tt; state = refl; fit = tt }
  drill_sound key (suc n) = next_sound n (drilling_after key n) (kept_characters key n) (drill_sound key n)
