-- What the machine answers to an event, and the state after it.
use Rattle.std.specs.Prelude.{ℕ, ◌+◌, ◌-◌, ◌^◌, ◌==◌, ◌&&◌, ◌||◌, nat_le, Bool, true, false, List, [], ◌∷◌, ◌++◌, length, Option, None}
use Rattle.std.specs.Prelude.{Some, is_none, if◌then◌else◌}
use Rattle.ifmap_folds.specs.ifmap_fresh.Fresh.{fresh, fresh_size}
use Rattle.ifmap_ident.specs.declared.codes.Code.{Code}
use Rattle.ifmap_ident.specs.declared.codes.Code.TheVariants.{AccessDenied, InvalidSessionID, SearchResultsTooBig, SystemError}
use Rattle.ifmap_ident.specs.Codes.{code_name}
use Rattle.ifmap_machine.specs.declared.events.Answer.{Answer}
use Rattle.ifmap_machine.specs.declared.events.Answer.TheVariants as the_answer
use Rattle.ifmap_machine.specs.declared.events.Ask.{Ask}
use Rattle.ifmap_machine.specs.declared.events.Ask.TheVariants.{Request, Lost}
use Rattle.ifmap_machine.specs.Ending.{end_former, end_some, expire}
use Rattle.ifmap_machine.specs.Events.{Event}
use Rattle.ifmap_machine.specs.State.{State, advance}
use Rattle.ifmap_machine.specs.Subscribing.{Told, subscribe_ops}
use Rattle.ifmap_machine.specs.Telling.{is_too_big, limit_note, overflow, tell}
use Rattle.ifmap_publish.specs.Apply.{Authorship, apply}
use Rattle.ifmap_publish.specs.Notes.{notes_of}
use Rattle.ifmap_publish.specs.declared.who.Who.TheVariants.{Publisher}
use Rattle.ifmap_publish.specs.Retract.{retract}
use Rattle.ifmap_replies.specs.declared.replies.Reply.TheVariants as the_reply
use Rattle.ifmap_publish.specs.ifmap_requests.declared.publish_ops.PublishOp.{PublishOp}
use Rattle.ifmap_publish.specs.ifmap_requests.declared.requests.Request.TheVariants as the_request
use Rattle.ifmap_publish.specs.ifmap_requests.declared.requests.SubscribeOp.{SubscribeOp}
use Rattle.ifmap_replies.specs.ifmap_search.declared.results.PollItem.{PollItem}
use Rattle.ifmap_replies.specs.ifmap_search.declared.searches.Search.{Search}
use Rattle.ifmap_session.specs.SessionIds.{session_id}
use Rattle.ifmap_session.specs.Sessions.{Session, change, is_same_text, limit_of, most_sessions, session_from, session_of_client, with_last, without_items}
use Rattle.ifmap_session.specs.Sessions.{session_with_id}

-- a refusal with a note
abbrev pub refusal_with : Code → List ℕ → Answer
refusal_with code note = the_answer.Reply (the_reply.Error code note)

-- a refusal whose note is the code's name
abbrev pub refusal : Code → Answer
refusal code = refusal_with code (code_name code)

-- whether the client can be given no session: all are taken and it has none, or the serials are used up
abbrev pub is_full : State → List ℕ → Bool
is_full state client =
    (nat_le most_sessions (length state.sessions) && is_none (session_of_client client state.sessions)) || (state.counter == 2 ^ 64 - 1)

-- the session that begins in a state
abbrev pub next_session : State → List ℕ → ℕ → Option ℕ → Session
next_session state client random limit =
    let serial = state.counter + 1 in
    session_from (record { serial = serial; id = session_id serial random; client = client }) (limit_of limit) state.moment

-- the state with one more session
abbrev pub begin_session : List ℕ → ℕ → Option ℕ → State → State
begin_session client random limit state =
    record state { counter = state.counter + 1; sessions = state.sessions ++ next_session state client random limit ∷ [] }

-- a new session takes the place of the one that the client has
abbrev pub new_session : State → List ℕ → ℕ → Option ℕ → State × Answer
new_session state client random limit =
    if is_full state client
    then (state, refusal SystemError)
    else (
      begin_session client random limit (end_former (session_of_client client state.sessions) state),
      the_answer.Reply (the_reply.NewSession (session_id (state.counter + 1) random) client (limit_of limit)),
    )

-- the state where a request in a session was accepted
abbrev pub renew : ℕ → State → State
renew serial state = record state { sessions = change serial (with_last state.moment) state.sessions }

-- a request in the session that it names: refused where none is live, or where it is another client's
abbrev pub in_session : State → List ℕ → Option Session → (Session → State × Answer) → State × Answer
in_session state client None accept = (state, refusal InvalidSessionID)
in_session state client (Some s) accept = if is_same_text s.client client then accept s else (state, refusal AccessDenied)

abbrev pub renew_session : State → Session → State × Answer
renew_session state s = (renew s.serial state, the_answer.Reply the_reply.Renewed)

-- the client ends a session of its own
abbrev pub end_session : State → Session → State × Answer
end_session state s = (end_some (s.serial ∷ []) state, the_answer.Reply the_reply.Ended)

-- who publishes in a session, at the state's moment
abbrev pub author_in : State → Session → Authorship
author_in state s = record { client = s.client; serial = s.serial; moment = state.moment }

-- the client publishes in a session of its own
abbrev pub publish : State → List PublishOp → Session → State × Answer
publish state ops s =
    let by = author_in state s in
    (renew s.serial (overflow (tell (apply state.graph by ops) (notes_of by ops) state)), the_answer.Reply the_reply.Published)

-- the client takes away what a publisher published: only what it published itself
abbrev pub purge : State → List ℕ → Session → State × Answer
purge state publisher s =
    if is_same_text publisher s.client
    then (renew s.serial (overflow (tell (retract (Publisher publisher) state.graph) [] state)), the_answer.Reply the_reply.Purged)
    else (state, refusal AccessDenied)

-- the client searches in a session of its own: refused where too much is found
abbrev pub search : State → Search → Session → State × Answer
search state asked s =
    if is_too_big state.graph asked
    then (state, refusal_with SearchResultsTooBig (limit_note (fresh_size state.graph asked) asked.max_size))
    else (renew s.serial state, the_answer.Reply (the_reply.Found (fresh state.graph asked)))

-- the state where a session has this queue, and these subscriptions stand
abbrev pub with_told : ℕ → Told → State → State
with_told serial t state = record state {
  sessions = change serial (λ (s : Session). record s { queue = t.queue }) state.sessions;
  standing = t.standing;
}

abbrev pub answer_subscribed : State → Session → Option Told → State × Answer
answer_subscribed state s None = (state, refusal SystemError)
answer_subscribed state s (Some t) =
    (renew s.serial (overflow (with_told s.serial t state)), the_answer.Reply the_reply.Subscribed)

-- the client changes the subscriptions of a session of its own: refused where there is no room for a name
abbrev pub subscribe : State → List SubscribeOp → Session → State × Answer
subscribe state ops s =
    answer_subscribed state s (subscribe_ops state.graph s.serial ops (record { queue = s.queue; standing = state.standing }))

-- the state where a poll in a session was accepted: one that is asked again is no sign of life
abbrev pub renew_first : Bool → ℕ → State → State
renew_first true serial state = state
renew_first false serial state = renew serial state

-- the client polls in a session of its own: all that there is to tell, or held where there is nothing
abbrev pub poll_queue : State → Bool → Session → List PollItem → State × Answer
poll_queue state again s [] = (renew_first again s.serial state, the_answer.Held)
poll_queue state again s (item ∷ items) = (
  renew_first again s.serial (record state { sessions = change s.serial without_items state.sessions }),
  the_answer.Reply (the_reply.Polled (item ∷ items)),
)

abbrev pub poll_in : State → Bool → Session → State × Answer
poll_in state again s = poll_queue state again s s.queue

-- a poll, which is told of the session's end where it is asked again and the session has ended
abbrev pub poll : State → List ℕ → Bool → Option Session → State × Answer
poll state client true None = (state, the_answer.Reply the_reply.Ended)
poll state client true (Some s) = in_session state client (Some s) (poll_in state true)
poll state client false found = in_session state client found (poll_in state false)

-- an answer was lost: the session ends, where it is the client's
abbrev pub lose : State → List ℕ → Option Session → State × Answer
lose state client None = (state, the_answer.Heard)
lose state client (Some s) = (if is_same_text s.client client then end_some (s.serial ∷ []) state else state, the_answer.Heard)

-- the case of each request
abbrev pub step_ask : State → Event → Ask → State × Answer
step_ask state event (Lost id) = lose state event.client (session_with_id id state.sessions)
step_ask state event (Request (the_request.NewSession limit)) = new_session state event.client event.random limit
step_ask state event (Request (the_request.RenewSession id)) =
    in_session state event.client (session_with_id id state.sessions) (renew_session state)
step_ask state event (Request (the_request.EndSession id)) =
    in_session state event.client (session_with_id id state.sessions) (end_session state)
step_ask state event (Request (the_request.Publish id ops)) =
    in_session state event.client (session_with_id id state.sessions) (publish state ops)
step_ask state event (Request (the_request.Search id asked)) =
    in_session state event.client (session_with_id id state.sessions) (search state asked)
step_ask state event (Request (the_request.Subscribe id ops)) =
    in_session state event.client (session_with_id id state.sessions) (subscribe state ops)
step_ask state event (Request (the_request.Poll id)) =
    poll state event.client event.again (session_with_id id state.sessions)
step_ask state event (Request (the_request.PurgePublisher id publisher)) =
    in_session state event.client (session_with_id id state.sessions) (purge state publisher)

-- the state after an event, and its answer: the moment is taken in, and the expired sessions end, before all else
abbrev pub step : State → Event → State × Answer
step state event = step_ask (expire (advance event.moment state)) event event.ask
