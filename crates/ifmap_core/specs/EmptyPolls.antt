-- When a poll that is asked again would still be held.
use Rattle.std.specs.Prelude.{◌≡◌, ℕ, true, false, List, [], max, Some}
use Rattle.std.specs.List.{list_any}
use Rattle.ifmap_subscribes.specs.ifmap_machine.declared.events.Ask.TheVariants.{Request}
use Rattle.ifmap_subscribes.specs.ifmap_machine.Events.{Event}
use Rattle.ifmap_subscribes.specs.ifmap_machine.State.{State}
use Rattle.ifmap_subscribes.specs.ifmap_requests.declared.requests.Request.TheVariants.{Poll}
use Rattle.ifmap_session.specs.Sessions.{Session, is_expired, session_with_id}

-- the session of an id is live and the client's, and has nothing to tell
abbrev pub HasNothing : List Session → List ℕ → List ℕ → Type 0
HasNothing live id client = (s : Session) × (session_with_id id live ≡ Some s) × (s.client ≡ client) × (s.queue ≡ [])

-- a poll is asked again, no session is expired at the greater of both moments, and the poll's session is live and the client's, and has
-- nothing to tell
abbrev pub WouldHold : State → Event → Type 0
WouldHold state event =
    (id : List ℕ) × (event.ask ≡ Request (Poll id)) × (event.again ≡ true)
    × (list_any (is_expired (max state.moment event.moment) state.ttl) state.sessions ≡ false) × HasNothing state.sessions id event.client
