-- What holds of a state and is kept by each case of the step, whatever it is.
-- First: a request in a session, the end of a session that is replaced or lost, a search and a purge. Then polls (`poll_keeps`). Then the
-- step: it keeps what is kept where sessions go on, end and begin, and by what the other requests change (`step_keeps`).
use Rattle.std.proofs.Common.{◌≡◌, refl, ℕ, Bool, true, false, List, [], ◌∷◌, Option, None, Some, inl, inr}
use Rattle.std.proofs.lemmas.Bool.{cases_Bool}
use Rattle.ifmap_machine.specs.declared.events.Answer.{Answer}
use Rattle.ifmap_machine.specs.declared.events.Ask.{Ask}
use Rattle.ifmap_machine.specs.declared.events.Ask.TheVariants.{Request, Lost}
use Rattle.ifmap_machine.specs.Ending.{end_former, end_some}
use Rattle.ifmap_machine.specs.Events.{Event}
use Rattle.ifmap_machine.specs.State.{State}
use Rattle.ifmap_machine.specs.Step.{begin_session, end_session, in_session, is_full, lose, poll, poll_in, poll_queue, publish, purge}
use Rattle.ifmap_machine.specs.Step.{renew, renew_first, renew_session, search, step_ask, subscribe}
use Rattle.ifmap_machine.specs.Telling.{is_too_big, overflow, tell}
use Rattle.ifmap_publish.specs.declared.who.Who.TheVariants.{Publisher}
use Rattle.ifmap_publish.specs.Retract.{retract}
use Rattle.ifmap_publish.specs.ifmap_requests.declared.publish_ops.PublishOp.{PublishOp}
use Rattle.ifmap_publish.specs.ifmap_requests.declared.requests.Request.TheVariants as the_request
use Rattle.ifmap_publish.specs.ifmap_requests.declared.requests.SubscribeOp.{SubscribeOp}
use Rattle.ifmap_replies.specs.ifmap_search.declared.results.PollItem.{PollItem}
use Rattle.ifmap_replies.specs.ifmap_search.declared.searches.Search.{Search}
use Rattle.ifmap_session.specs.Sessions.{Session, change, is_same_text, session_of_client, session_with_id, without_items}

-- the state where nothing is queued for a session
abbrev pub empty_queue : ℕ → State → State
empty_queue serial state = record state { sessions = change serial without_items state.sessions }

-- the state where a client has purged a publisher in a session
abbrev pub purge_publisher : State → List ℕ → Session → State
purge_publisher state publisher s = renew s.serial (overflow (tell (retract (Publisher publisher) state.graph) [] state))

module _ (Holds : State → Type 0) where
  pub in_session_keeps : (state : State) (client : List ℕ) (accept : Session → State × Answer) (o : Option Session)
      → ((s : Session) → o ≡ Some s → is_same_text s.client client ≡ true → Holds (accept s).0) → Holds state
      → Holds (in_session state client o accept).0
  in_session_keeps state client accept None f w = w
  in_session_keeps state client accept (Some s) f w =
      elim (cases_Bool (is_same_text s.client client)) [ inl hit ↦ rw hit (f s refl hit) | inr miss ↦ rw miss w ]

  pub former_keeps : (state : State) (o : Option Session) → ((s : Session) → Holds (end_some (s.serial ∷ []) state)) → Holds state
      → Holds (end_former o state)
  former_keeps state None ended w = w
  former_keeps state (Some s) ended w = ended s

  pub lost_keeps : (state : State) (client : List ℕ) (o : Option Session) → ((s : Session) → Holds (end_some (s.serial ∷ []) state))
      → Holds state → Holds (lose state client o).0
  lost_keeps state client None ended w = w
  lost_keeps state client (Some s) ended w =
      elim (cases_Bool (is_same_text s.client client)) [ inl hit ↦ rw hit (ended s) | inr miss ↦ rw miss w ]

  pub search_keeps : (state : State) (asked : Search) (s : Session) → Holds (renew s.serial state) → Holds state
      → Holds (search state asked s).0
  search_keeps state asked s renewed w =
      elim (cases_Bool (is_too_big state.graph asked)) [ inl hit ↦ rw hit w | inr miss ↦ rw miss renewed ]

  pub purge_keeps : (state : State) (publisher : List ℕ) (s : Session) → Holds (purge_publisher state publisher s) → Holds state
      → Holds (purge state publisher s).0
  purge_keeps state publisher s taken w =
      elim (cases_Bool (is_same_text publisher s.client)) [ inl hit ↦ rw hit taken | inr miss ↦ rw miss w ]

  -- ---- polls

  module _ (renewed : (serial : ℕ) (state : State) → Holds state → Holds (renew serial state)) where
    first_keeps : (again : Bool) (serial : ℕ) (state : State) → Holds state → Holds (renew_first again serial state)
    first_keeps true serial state w = w
    first_keeps false serial state w = renewed serial state w

    queue_keeps : (state : State) (again : Bool) (s : Session) (queue : List PollItem) → Holds (empty_queue s.serial state) → Holds state
        → Holds (poll_queue state again s queue).0
    queue_keeps state again s [] empty w = first_keeps again s.serial state w
    queue_keeps state again s (item ∷ items) empty w = first_keeps again s.serial (empty_queue s.serial state) empty

    pub poll_keeps : (state : State) (client : List ℕ) (again : Bool) (o : Option Session)
        → ((s : Session) → Holds (empty_queue s.serial state)) → Holds state → Holds (poll state client again o).0
    poll_keeps state client true None empty w = w
    poll_keeps state client true (Some s) empty w = in_session_keeps state client (poll_in state true) (Some s)
        (λ t found own. queue_keeps state true t t.queue (empty t) w) w
    poll_keeps state client false o empty w = in_session_keeps state client (poll_in state false) o
        (λ t found own. queue_keeps state false t t.queue (empty t) w) w

-- ---- the step

-- what holds of a state is kept by all that one ask can change
pub record IsKeptBy (Holds : State → Type 0) (state : State) (event : Event) (ask : Ask) : Type 0 where
  pub renewed : (serial : ℕ) (one : State) → Holds one → Holds (renew serial one)
  pub empty : (s : Session) → Holds (empty_queue s.serial state)
  pub ended : (s : Session) → Holds (end_some (s.serial ∷ []) state)
  pub begun : (limit : Option ℕ) → is_full state event.client ≡ false
      → Holds (begin_session event.client event.random limit (end_former (session_of_client event.client state.sessions) state))
  pub published : (id : List ℕ) (ops : List PublishOp) → ask ≡ Request (the_request.Publish id ops) → (s : Session)
      → session_with_id id state.sessions ≡ Some s → is_same_text s.client event.client ≡ true → Holds (publish state ops s).0
  pub subscribed : (ops : List SubscribeOp) (s : Session) → Holds (subscribe state ops s).0
  pub taken : (publisher : List ℕ) (s : Session) → Holds (purge_publisher state publisher s)

pub step_keeps : (Holds : State → Type 0) (state : State) (event : Event) (ask : Ask) → IsKeptBy Holds state event ask → Holds state
    → Holds (step_ask state event ask).0
step_keeps Holds state event (Lost id) k w = lost_keeps Holds state event.client (session_with_id id state.sessions) k.ended w
step_keeps Holds state event (Request (the_request.NewSession limit)) k w =
    elim (cases_Bool (is_full state event.client)) [ inl hit ↦ rw hit w | inr miss ↦ rw miss (k.begun limit miss) ]
step_keeps Holds state event (Request (the_request.RenewSession id)) k w =
    in_session_keeps Holds state event.client (renew_session state) (session_with_id id state.sessions)
    (λ s found own. k.renewed s.serial state w) w
step_keeps Holds state event (Request (the_request.EndSession id)) k w =
    in_session_keeps Holds state event.client (end_session state) (session_with_id id state.sessions) (λ s found own. k.ended s) w
step_keeps Holds state event (Request (the_request.Publish id ops)) k w =
    in_session_keeps Holds state event.client (publish state ops) (session_with_id id state.sessions) (k.published id ops refl) w
step_keeps Holds state event (Request (the_request.Search id asked)) k w =
    in_session_keeps Holds state event.client (search state asked) (session_with_id id state.sessions)
    (λ s found own. search_keeps Holds state asked s (k.renewed s.serial state w) w) w
step_keeps Holds state event (Request (the_request.Subscribe id ops)) k w =
    in_session_keeps Holds state event.client (subscribe state ops) (session_with_id id state.sessions)
    (λ s found own. k.subscribed ops s) w
step_keeps Holds state event (Request (the_request.Poll id)) k w =
    poll_keeps Holds k.renewed state event.client event.again (session_with_id id state.sessions) k.empty w
step_keeps Holds state event (Request (the_request.PurgePublisher id publisher)) k w =
    in_session_keeps Holds state event.client (purge state publisher) (session_with_id id state.sessions)
    (λ s found own. purge_keeps Holds state publisher s (k.taken publisher s) w) w
