-- Which answers an event can have.
use Rattle.std.proofs.Common.{◌≡◌, refl, ℕ, Bool, true, false, List, [], ◌∷◌, Option, None, Some, inl, inr}
use Rattle.std.proofs.lemmas.Bool.{cases_Bool}
use Rattle.ifmap_dialogue.specs.Desks.{FitsAnswer, IsRequestEvent, IsLost, IsPoll}
use Rattle.ifmap_dialogue.specs.ifmap_machine.declared.events.Answer.{Answer}
use Rattle.ifmap_dialogue.specs.ifmap_machine.declared.events.Ask.{Ask}
use Rattle.ifmap_dialogue.specs.ifmap_machine.declared.events.Ask.TheVariants.{Request, Lost}
use Rattle.ifmap_dialogue.specs.ifmap_machine.Ending.{expire}
use Rattle.ifmap_dialogue.specs.ifmap_machine.Events.{Event}
use Rattle.ifmap_dialogue.specs.ifmap_machine.State.{State, advance}
use Rattle.ifmap_dialogue.specs.ifmap_machine.Step.{answer_subscribed, in_session, is_full, lose, new_session, poll, poll_in, poll_queue, publish, purge, search, step, step_ask, subscribe}
use Rattle.ifmap_dialogue.specs.ifmap_machine.Step.{end_session, renew_session}
use Rattle.ifmap_dialogue.specs.ifmap_machine.Subscribing.{Told, subscribe_ops}
use Rattle.ifmap_dialogue.specs.ifmap_machine.Telling.{is_too_big}
use Rattle.ifmap_dialogue.specs.ifmap_requests.declared.requests.Request.TheVariants as the_request
use Rattle.ifmap_core.specs.ifmap_search.declared.results.PollItem.{PollItem}
use Rattle.ifmap_core.specs.ifmap_search.declared.searches.Search.{Search}
use Rattle.ifmap_core.specs.ifmap_session.Sessions.{Session, is_same_text, session_with_id}

module _ (event : Event) where
  -- a request in a session, where what is accepted is answered so
  in_fits : (state : State) (client : List ℕ) (found : Option Session) (accept : Session → State × Answer) → IsRequestEvent event
      → ((s : Session) → FitsAnswer event (accept s).1) → FitsAnswer event (in_session state client found accept).1
  in_fits state client None accept asked f = asked
  in_fits state client (Some s) accept asked f =
      elim (cases_Bool (is_same_text s.client client)) [
        | inl own ↦ rw own (f s)
        | inr other ↦ rw other asked
      ]

  new_fits : (state : State) (client : List ℕ) (random : ℕ) (limit : Option ℕ) → IsRequestEvent event
      → FitsAnswer event (new_session state client random limit).1
  new_fits state client random limit asked =
      elim (cases_Bool (is_full state client)) [
        | inl full ↦ rw full asked
        | inr free ↦ rw free asked
      ]

  search_fits : (state : State) (wanted : Search) (s : Session) → IsRequestEvent event → FitsAnswer event (search state wanted s).1
  search_fits state wanted s asked =
      elim (cases_Bool (is_too_big state.graph wanted)) [
        | inl big ↦ rw big asked
        | inr small ↦ rw small asked
      ]

  subscribed_fits : (state : State) (s : Session) (told : Option Told) → IsRequestEvent event
      → FitsAnswer event (answer_subscribed state s told).1
  subscribed_fits state s None asked = asked
  subscribed_fits state s (Some t) asked = asked

  purge_fits : (state : State) (publisher : List ℕ) (s : Session) → IsRequestEvent event → FitsAnswer event (purge state publisher s).1
  purge_fits state publisher s asked =
      elim (cases_Bool (is_same_text publisher s.client)) [
        | inl own ↦ rw own asked
        | inr other ↦ rw other asked
      ]

  queue_fits : (state : State) (again : Bool) (s : Session) (queue : List PollItem) → IsPoll event
      → FitsAnswer event (poll_queue state again s queue).1
  queue_fits state again s [] polls = polls
  queue_fits state again s (item ∷ items) polls = polls

  poll_fits : (state : State) (client : List ℕ) (again : Bool) (found : Option Session) → IsPoll event → IsRequestEvent event
      → FitsAnswer event (poll state client again found).1
  poll_fits state client true None polls asked = asked
  poll_fits state client true (Some s) polls asked =
      in_fits state client (Some s) (poll_in state true) asked (λ s. queue_fits state true s s.queue polls)
  poll_fits state client false found polls asked =
      in_fits state client found (poll_in state false) asked (λ s. queue_fits state false s s.queue polls)

  lost_fits : (state : State) (client : List ℕ) (found : Option Session) → IsLost event → FitsAnswer event (lose state client found).1
  lost_fits state client None lost = lost
  lost_fits state client (Some s) lost = lost

  asked_fits : (state : State) (ask : Ask) → event.ask ≡ ask → FitsAnswer event (step_ask state event ask).1
  asked_fits state (Lost id) is = lost_fits state event.client (session_with_id id state.sessions) (id, is)
  asked_fits state (Request (the_request.NewSession limit)) is =
      new_fits state event.client event.random limit (the_request.NewSession limit, is)
  asked_fits state (Request (the_request.RenewSession id)) is =
      let asked : IsRequestEvent event = (the_request.RenewSession id, is) in
      in_fits state event.client (session_with_id id state.sessions) (renew_session state) asked (λ s. asked)
  asked_fits state (Request (the_request.EndSession id)) is =
      let asked : IsRequestEvent event = (the_request.EndSession id, is) in
      in_fits state event.client (session_with_id id state.sessions) (end_session state) asked (λ s. asked)
  asked_fits state (Request (the_request.Publish id ops)) is =
      let asked : IsRequestEvent event = (the_request.Publish id ops, is) in
      in_fits state event.client (session_with_id id state.sessions) (publish state ops) asked (λ s. asked)
  asked_fits state (Request (the_request.Search id wanted)) is =
      let asked : IsRequestEvent event = (the_request.Search id wanted, is) in
      in_fits state event.client (session_with_id id state.sessions) (search state wanted) asked (λ s. search_fits state wanted s asked)
  asked_fits state (Request (the_request.Subscribe id ops)) is =
      let asked : IsRequestEvent event = (the_request.Subscribe id ops, is) in
      in_fits state event.client (session_with_id id state.sessions) (subscribe state ops) asked
      (λ s. subscribed_fits state s
      (subscribe_ops state.graph s.serial ops (record { queue = s.queue; standing = state.standing })) asked)
  asked_fits state (Request (the_request.Poll id)) is =
      poll_fits state event.client event.again (session_with_id id state.sessions) (id, is) (the_request.Poll id, is)
  asked_fits state (Request (the_request.PurgePublisher id publisher)) is =
      let asked : IsRequestEvent event = (the_request.PurgePublisher id publisher, is) in
      in_fits state event.client (session_with_id id state.sessions) (purge state publisher) asked
      (λ s. purge_fits state publisher s asked)

  pub answer_fits : (state : State) → FitsAnswer event (step state event).1
  answer_fits state = asked_fits (expire (advance event.moment state)) event.ask refl
