-- Whether an event would be held, as a test.
use Rattle.std.specs.Prelude.{ℕ, ◌&&◌, Bool, true, false, List, [], ◌∷◌, max, not, Option, None, Some}
use Rattle.std.specs.List.{list_any}
use Rattle.ifmap_dialogue.specs.ifmap_machine.declared.events.Ask.{Ask}
use Rattle.ifmap_dialogue.specs.ifmap_machine.declared.events.Ask.TheVariants.{Request, Lost}
use Rattle.ifmap_dialogue.specs.ifmap_machine.Events.{Event}
use Rattle.ifmap_dialogue.specs.ifmap_machine.State.{State}
use Rattle.ifmap_dialogue.specs.ifmap_requests.declared.requests.Request.TheVariants as the_request
use Rattle.ifmap_core.specs.ifmap_search.declared.results.PollItem.{PollItem}
use Rattle.ifmap_core.specs.ifmap_session.Sessions.{Session, is_expired, is_same_text, session_with_id}

-- there is nothing to tell
abbrev pub is_nothing : List PollItem → Bool
is_nothing [] = true
is_nothing (item ∷ queue) = false

-- a session that was looked for is the client's, and has nothing to tell
abbrev pub has_nothing : List ℕ → Option Session → Bool
has_nothing client None = false
has_nothing client (Some s) = is_same_text s.client client && is_nothing s.queue

-- a session is expired at the greater of both moments
abbrev pub is_any_expired : State → ℕ → Bool
is_any_expired state moment = list_any (is_expired (max state.moment moment) state.ttl) state.sessions

-- the same of a poll in the session of that id
abbrev pub holds_poll : State → Event → List ℕ → Bool
holds_poll state event id =
    event.again && (not (is_any_expired state event.moment) && has_nothing event.client (session_with_id id state.sessions))

abbrev pub holds_ask : State → Event → Ask → Bool
holds_ask state event (Request (the_request.Poll id)) = holds_poll state event id
holds_ask state event (Request (the_request.NewSession limit)) = false
holds_ask state event (Request (the_request.RenewSession id)) = false
holds_ask state event (Request (the_request.EndSession id)) = false
holds_ask state event (Request (the_request.Publish id ops)) = false
holds_ask state event (Request (the_request.Search id asked)) = false
holds_ask state event (Request (the_request.Subscribe id ops)) = false
holds_ask state event (Request (the_request.PurgePublisher id publisher)) = false
holds_ask state event (Lost id) = false

-- a poll is asked again, no session is expired at the greater of both moments, and the poll's session is live and the client's, and has
-- nothing to tell
abbrev pub would_hold : State → Event → Bool
would_hold state event = holds_ask state event event.ask
