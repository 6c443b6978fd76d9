-- Events that take no memory.
use Rattle.std.specs.Prelude.{◌≡◌, ℕ, ◌⊎◌, false, List, max, Some}
use Rattle.std.specs.List.{list_any}
use Rattle.ifmap_subscribes.specs.ifmap_machine.declared.events.Ask.{Ask}
use Rattle.ifmap_subscribes.specs.ifmap_machine.declared.events.Ask.TheVariants.{Request}
use Rattle.ifmap_subscribes.specs.ifmap_machine.Events.{Event}
use Rattle.ifmap_subscribes.specs.ifmap_machine.State.{State}
use Rattle.ifmap_subscribes.specs.ifmap_requests.declared.requests.Request.TheVariants.{Poll, RenewSession}
use Rattle.ifmap_session.specs.Sessions.{Session, is_expired, session_with_id}

-- the session of an id is renewed, or polled
abbrev pub RenewsOrPolls : List ℕ → Ask → Type 0
RenewsOrPolls id ask = (ask ≡ Request (RenewSession id)) ⊎ (ask ≡ Request (Poll id))

-- a live session of the client's is renewed, or polled
abbrev pub IsLight : List Session → Event → Type 0
IsLight live event =
    (id : List ℕ) × RenewsOrPolls id event.ask × (s : Session) × (session_with_id id live ≡ Some s) × (s.client ≡ event.client)

-- the same, at a moment at which no session is expired
abbrev pub TakesNoMemory : State → Event → Type 0
TakesNoMemory state event =
    (list_any (is_expired (max state.moment event.moment) state.ttl) state.sessions ≡ false) × IsLight state.sessions event
