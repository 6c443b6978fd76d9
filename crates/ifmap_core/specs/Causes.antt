-- When each refusal comes, and each answer to a poll, of the state that an event is answered in: at its moment, without the sessions that
-- are expired then.
use Rattle.std.specs.Prelude.{◌≡◌, ◌≢◌, ℕ, ◌-◌, ◌^◌, ◌≤◌, ◌<◌, ◌⊎◌, Bool, true, false, List, ◌∷◌, ◌++◌, length, Option, None, Some}
use Rattle.std.specs.List.{list_any}
use Rattle.ifmap_core.specs.EmptyPolls.{HasNothing}
use Rattle.ifmap_subscribes.specs.ifmap_fresh.Fresh.{fresh_size}
use Rattle.ifmap_ident.specs.declared.codes.Code.{Code}
use Rattle.ifmap_subscribes.specs.ifmap_machine.declared.events.Answer.{Answer}
use Rattle.ifmap_subscribes.specs.ifmap_machine.declared.events.Answer.TheVariants as the_answer
use Rattle.ifmap_subscribes.specs.ifmap_machine.declared.events.Ask.{Ask}
use Rattle.ifmap_subscribes.specs.ifmap_machine.declared.events.Ask.TheVariants.{Request, Lost}
use Rattle.ifmap_subscribes.specs.ifmap_machine.Ending.{expire}
use Rattle.ifmap_subscribes.specs.ifmap_machine.Events.{Event}
use Rattle.ifmap_subscribes.specs.ifmap_machine.State.{State, advance, standing_in}
use Rattle.ifmap_subscribes.specs.ifmap_machine.Subscribing.{Told, is_of_name, most_names, subscribe_ops}
use Rattle.ifmap_subscribes.specs.ifmap_replies.declared.replies.Reply.TheVariants as the_reply
use Rattle.ifmap_subscribes.specs.ifmap_requests.declared.requests.Request.TheVariants as the_request
use Rattle.ifmap_subscribes.specs.ifmap_requests.declared.requests.SubscribeOp.{SubscribeOp}
use Rattle.ifmap_subscribes.specs.ifmap_requests.declared.requests.SubscribeOp.TheVariants.{Update}
use Rattle.ifmap_session.specs.ifmap_search.declared.searches.Search.{Search}
use Rattle.ifmap_session.specs.Sessions.{Session, most_sessions, session_of_client, session_with_id}
use Rattle.ifmap_subscribes.specs.ifmap_view.declared.attachments.Attachment.{Attachment}

-- the state that an event is answered in
abbrev pub state_for : State → Event → State
state_for state event = expire (advance event.moment state)

-- the answer refuses with that code
abbrev pub IsRefusal : Code → Answer → Type 0
IsRefusal code (the_answer.Reply (the_reply.Error given note)) = given ≡ code
IsRefusal code (the_answer.Reply (the_reply.NewSession id publisher limit)) = ⊥
IsRefusal code (the_answer.Reply the_reply.Renewed) = ⊥
IsRefusal code (the_answer.Reply the_reply.Ended) = ⊥
IsRefusal code (the_answer.Reply the_reply.Published) = ⊥
IsRefusal code (the_answer.Reply the_reply.Subscribed) = ⊥
IsRefusal code (the_answer.Reply the_reply.Purged) = ⊥
IsRefusal code (the_answer.Reply (the_reply.Found entries)) = ⊥
IsRefusal code (the_answer.Reply (the_reply.Polled items)) = ⊥
IsRefusal code the_answer.Held = ⊥
IsRefusal code the_answer.Heard = ⊥

-- the session that a request names by its id
abbrev pub asked_session : State → Ask → Option (Option Session)
asked_session state (Lost id) = None
asked_session state (Request (the_request.NewSession limit)) = None
asked_session state (Request (the_request.RenewSession id)) = Some (session_with_id id state.sessions)
asked_session state (Request (the_request.EndSession id)) = Some (session_with_id id state.sessions)
asked_session state (Request (the_request.Publish id ops)) = Some (session_with_id id state.sessions)
asked_session state (Request (the_request.Search id asked)) = Some (session_with_id id state.sessions)
asked_session state (Request (the_request.Subscribe id ops)) = Some (session_with_id id state.sessions)
asked_session state (Request (the_request.Poll id)) = Some (session_with_id id state.sessions)
asked_session state (Request (the_request.PurgePublisher id publisher)) = Some (session_with_id id state.sessions)

-- a request that is asked again, which is told of the session's end instead
abbrev pub is_told_end : Bool → Ask → Bool
is_told_end again (Lost id) = false
is_told_end again (Request (the_request.NewSession limit)) = false
is_told_end again (Request (the_request.RenewSession id)) = false
is_told_end again (Request (the_request.EndSession id)) = false
is_told_end again (Request (the_request.Publish id ops)) = false
is_told_end again (Request (the_request.Search id asked)) = false
is_told_end again (Request (the_request.Subscribe id ops)) = false
is_told_end again (Request (the_request.Poll id)) = again
is_told_end again (Request (the_request.PurgePublisher id publisher)) = false

-- the request names a session by an id that no live session has, and is no poll that is asked again
abbrev pub NamesNoSession : State → Bool → Ask → Type 0
NamesNoSession state again ask = (asked_session state ask ≡ Some None) × (is_told_end again ask ≡ false)

-- the request names the live session of another client
abbrev pub NamesAnothersSession : State → List ℕ → Ask → Type 0
NamesAnothersSession state client ask = (s : Session) × (asked_session state ask ≡ Some (Some s)) × (s.client ≢ client)

-- a request in a live session of the client's purges another publisher
abbrev pub PurgesAnother : State → List ℕ → Ask → Type 0
PurgesAnother state client (Lost id) = ⊥
PurgesAnother state client (Request (the_request.NewSession limit)) = ⊥
PurgesAnother state client (Request (the_request.RenewSession id)) = ⊥
PurgesAnother state client (Request (the_request.EndSession id)) = ⊥
PurgesAnother state client (Request (the_request.Publish id ops)) = ⊥
PurgesAnother state client (Request (the_request.Search id asked)) = ⊥
PurgesAnother state client (Request (the_request.Subscribe id ops)) = ⊥
PurgesAnother state client (Request (the_request.Poll id)) = ⊥
PurgesAnother state client (Request (the_request.PurgePublisher id publisher)) =
    ((s : Session) × (session_with_id id state.sessions ≡ Some s) × (s.client ≡ client)) × (publisher ≢ client)

-- a new session is asked for where all are taken and the client has none, or where the serials are used up
abbrev pub AsksForNoneLeft : State → List ℕ → Ask → Type 0
AsksForNoneLeft state client (Lost id) = ⊥
AsksForNoneLeft state client (Request (the_request.NewSession limit)) =
    ((most_sessions ≤ length state.sessions) × (session_of_client client state.sessions ≡ None)) ⊎ (state.counter ≡ 2 ^ 64 - 1)
AsksForNoneLeft state client (Request (the_request.RenewSession id)) = ⊥
AsksForNoneLeft state client (Request (the_request.EndSession id)) = ⊥
AsksForNoneLeft state client (Request (the_request.Publish id ops)) = ⊥
AsksForNoneLeft state client (Request (the_request.Search id asked)) = ⊥
AsksForNoneLeft state client (Request (the_request.Subscribe id ops)) = ⊥
AsksForNoneLeft state client (Request (the_request.Poll id)) = ⊥
AsksForNoneLeft state client (Request (the_request.PurgePublisher id publisher)) = ⊥

-- operations come to an update of a name for which a session has no room: once those before it are done, no subscription of the session
-- has that name, and as many of the session stand as it may keep
pub record MeetsNoRoom (rows : List Attachment) (serial : ℕ) (ops : List SubscribeOp) (told : Told) : Type 0 where
  pub before : List SubscribeOp
  pub name : List ℕ
  pub search : Search
  pub after : List SubscribeOp
  pub made : Told
  pub parts : ops ≡ before ++ Update name search ∷ after
  pub goes : subscribe_ops rows serial before told ≡ Some made
  pub new : list_any (is_of_name serial name) made.standing ≡ false
  pub full : most_names ≤ length (standing_in serial made.standing)

-- those of a subscribe in a live session of the client's do
abbrev pub HasNoRoomForName : State → List ℕ → Ask → Type 0
HasNoRoomForName state client (Lost id) = ⊥
HasNoRoomForName state client (Request (the_request.NewSession limit)) = ⊥
HasNoRoomForName state client (Request (the_request.RenewSession id)) = ⊥
HasNoRoomForName state client (Request (the_request.EndSession id)) = ⊥
HasNoRoomForName state client (Request (the_request.Publish id ops)) = ⊥
HasNoRoomForName state client (Request (the_request.Search id asked)) = ⊥
HasNoRoomForName state client (Request (the_request.Subscribe id ops)) =
    (s : Session) × (session_with_id id state.sessions ≡ Some s) × (s.client ≡ client)
    × MeetsNoRoom state.graph s.serial ops (record { queue = s.queue; standing = state.standing })
HasNoRoomForName state client (Request (the_request.Poll id)) = ⊥
HasNoRoomForName state client (Request (the_request.PurgePublisher id publisher)) = ⊥

-- a search in a live session of the client's finds more than its limit
abbrev pub FindsTooMuch : State → List ℕ → Ask → Type 0
FindsTooMuch state client (Lost id) = ⊥
FindsTooMuch state client (Request (the_request.NewSession limit)) = ⊥
FindsTooMuch state client (Request (the_request.RenewSession id)) = ⊥
FindsTooMuch state client (Request (the_request.EndSession id)) = ⊥
FindsTooMuch state client (Request (the_request.Publish id ops)) = ⊥
FindsTooMuch state client (Request (the_request.Search id asked)) =
    ((s : Session) × (session_with_id id state.sessions ≡ Some s) × (s.client ≡ client))
    × (asked.max_size < fresh_size state.graph asked)
FindsTooMuch state client (Request (the_request.Subscribe id ops)) = ⊥
FindsTooMuch state client (Request (the_request.Poll id)) = ⊥
FindsTooMuch state client (Request (the_request.PurgePublisher id publisher)) = ⊥

-- it is told that an answer was lost
abbrev pub IsLoss : Ask → Type 0
IsLoss ask = (id : List ℕ) × (ask ≡ Lost id)

-- a poll is asked
abbrev pub AsksPoll : Ask → Type 0
AsksPoll ask = (id : List ℕ) × (ask ≡ Request (the_request.Poll id))

-- a poll in a live session of the client's that has nothing to tell
abbrev pub PollsNothing : State → List ℕ → Ask → Type 0
PollsNothing state client ask = (id : List ℕ) × (ask ≡ Request (the_request.Poll id)) × HasNothing state.sessions id client

-- a poll is asked again, by an id that no live session has
abbrev pub PollsNoSession : State → Bool → Ask → Type 0
PollsNoSession state again ask =
    (id : List ℕ) × (ask ≡ Request (the_request.Poll id)) × (again ≡ true) × (session_with_id id state.sessions ≡ None)
