-- Live sessions, and what each call makes of their list (IF-MAP binding for SOAP 2.2, sessions: newSession, renewSession and
-- endSession, and what poll hands out).
use Rattle.std.specs.Prelude.{◌≡◌, ◌≢◌, ◌≤◌, ◌<◌, ℕ, ◌+◌, ◌^◌, ◌==◌, nat_le, Bool, false, List, [], ◌∷◌, ◌++◌, filter, find, length, map, not, Option, None, Some, IsSome, option_map, unwrap_or, if◌then◌else◌}
use Rattle.std.specs.Cmp.Lexicographic.{pointwise}
use Rattle.std.specs.List.{AllByRecursion, IsDistinct, list_any}
use Rattle.std.specs.List.Sorted.{IsStrictlySortedBy}
use Rattle.std.specs.Ordering.{nat_cmp, on}
use Rattle.std.specs.declared.cmp.Ordering.{Ordering}
use Rattle.ifmap_forms.specs.Values.{greatest_limit, least_limit, within_range}
use Rattle.ifmap_search.specs.declared.results.PollItem.{PollItem}
use Rattle.ifmap_search.specs.declared.results.PollItem.TheVariants as the_item
use Rattle.ifmap_session.specs.SessionIds.{BeginsWithSerial}

-- a live session
pub record Session : Type 0 where
  -- its number, counted from 1 over all sessions that were begun
  pub serial : ℕ
  -- the session-id of the protocol
  pub id : List ℕ
  -- the name of the client whose it is
  pub client : List ℕ
  -- what the size of its queue may be, in bytes
  pub limit : ℕ
  -- the moment of its last accepted request
  pub last : ℕ
  -- what a poll is to be told, in order
  pub queue : List PollItem

-- the serial that was given last, the live sessions in the order of their serials, for how many more items the queue of each
-- serial has room, and for how many more sessions there is room
pub record SessionTable : Type 0 where
  pub counter : ℕ
  pub live : List Session
  pub spare : List (ℕ × ℕ)
  pub room : ℕ

-- a session that is ready to begin: its serial, its id, and the name of its client
pub record Opening : Type 0 where
  pub serial : ℕ
  pub id : List ℕ
  pub client : List ℕ

-- how many sessions may live
abbrev pub most_sessions : ℕ
most_sessions = 10000

-- whether two texts are one
abbrev pub is_same_text : List ℕ → List ℕ → Bool
is_same_text = pointwise ◌==◌

-- the live session with an id
abbrev pub session_with_id : List ℕ → List Session → Option Session
session_with_id id sessions = find (λ s. is_same_text s.id id) sessions

-- the live session of a client
abbrev pub session_of_client : List ℕ → List Session → Option Session
session_of_client client sessions = find (λ s. is_same_text s.client client) sessions

-- the live session with a serial
abbrev pub session_with_serial : ℕ → List Session → Option Session
session_with_serial serial sessions = find (λ s. s.serial == serial) sessions

-- a session with that serial is live
abbrev pub IsLive : ℕ → List Session → Type 0
IsLive serial sessions = IsSome (session_with_serial serial sessions)

-- sessions by their serials
abbrev pub session_order : Session → Session → Ordering
session_order = on (λ (s : Session). s.serial) nat_cmp

-- what holds of the live sessions at every moment (one session a client: IF-MAP binding for SOAP 2.2, newSession)
pub record IsTable (table : SessionTable) : Type 0 where
  -- their serials rise, and none is above the one that was given last
  pub rising : IsStrictlySortedBy session_order table.live
  pub counted : AllByRecursion (λ (s : Session). s.serial ≤ table.counter) table.live
  pub small : table.counter < 2 ^ 64
  -- each id begins with its serial, so that no two are alike
  pub ids : AllByRecursion (λ (s : Session). BeginsWithSerial s.serial s.id) table.live
  -- a client has one session
  pub apart : IsDistinct is_same_text (map (λ (s : Session). s.client) table.live)
  pub few : length table.live ≤ most_sessions

-- for how many more items the queue of a session has room
abbrev pub spare_of : ℕ → List (ℕ × ℕ) → ℕ
spare_of serial spare = unwrap_or (option_map (λ s. s.1) (find (λ s. s.0 == serial) spare)) 0

-- the sessions without those of these serials
abbrev pub without_sessions : List ℕ → List Session → List Session
without_sessions serials sessions = filter (λ s. not (list_any (λ n. n == s.serial) serials)) sessions

-- the sessions where the one with a serial is changed
abbrev pub change : ℕ → (Session → Session) → List Session → List Session
change serial f sessions = map (λ s. if s.serial == serial then f s else s) sessions

-- one session is changed; the others, the room of their queues and the counter stay, and the room for more is no less
pub record Changes (serial : ℕ) (f : Session → Session) (old new : SessionTable) : Type 0 where
  pub live : new.live ≡ change serial f old.live
  pub counter : new.counter ≡ old.counter
  pub others : (other : ℕ) → other ≢ serial → spare_of other new.spare ≡ spare_of other old.spare
  pub room : old.room ≤ new.room

-- only room changes: the sessions, the counter and the room of the other queues stay, and the room for more is no less
pub record ChangesRoom (serial : ℕ) (old new : SessionTable) : Type 0 where
  pub live : new.live ≡ old.live
  pub counter : new.counter ≡ old.counter
  pub others : (other : ℕ) → other ≢ serial → spare_of other new.spare ≡ spare_of other old.spare
  pub room : old.room ≤ new.room

-- the same sessions, room of their queues and counter; the room for more is no less
pub record IsAsBefore (old new : SessionTable) : Type 0 where
  pub live : new.live ≡ old.live
  pub counter : new.counter ≡ old.counter
  pub spare : new.spare ≡ old.spare
  pub room : old.room ≤ new.room

-- the queue of a session has room for one item, once it is empty
abbrev pub HasRoomForOne : ℕ → SessionTable → Type 0
HasRoomForOne serial table =
    (s : Session) → session_with_serial serial table.live ≡ Some s → 1 ≤ spare_of serial table.spare + length s.queue

-- a session that was ready begins, with nothing to tell
abbrev pub session_from : Opening → ℕ → ℕ → Session
session_from opening limit moment =
    record { serial = opening.serial; id = opening.id; client = opening.client; limit = limit; last = moment; queue = [] }

-- a request is accepted at a moment
abbrev pub with_last : ℕ → Session → Session
with_last moment s = record s { last = moment }

-- one more item is to be told
abbrev pub with_item : PollItem → Session → Session
with_item item s = record s { queue = s.queue ++ item ∷ [] }

-- one item is to be told in place of all
abbrev pub with_error : PollItem → Session → Session
with_error error s = record s { queue = error ∷ [] }

-- nothing is to be told
abbrev pub without_items : Session → Session
without_items s = record s { queue = [] }

-- whether an item tells of the subscription of that name
abbrev pub is_named : List ℕ → PollItem → Bool
is_named name (the_item.Search own entries) = is_same_text own name
is_named name (the_item.Update own entries) = is_same_text own name
is_named name (the_item.Delete own entries) = is_same_text own name
is_named name (the_item.Notify own entries) = is_same_text own name
is_named name (the_item.Error None code note) = false
is_named name (the_item.Error (Some own) code note) = is_same_text own name

-- nothing of the subscription of that name is to be told
abbrev pub without_name : List ℕ → Session → Session
without_name name s = record s { queue = filter (λ item. not (is_named name item)) s.queue }

-- whether a session is expired at a moment: its last request lies at least `ttl` seconds before it
abbrev pub is_expired : ℕ → ℕ → Session → Bool
is_expired moment ttl s = nat_le (s.last + ttl) moment

-- the serials of the expired sessions, in their order
abbrev pub expired_serials : ℕ → ℕ → List Session → List ℕ
expired_serials moment ttl sessions = map (λ s. s.serial) (filter (is_expired moment ttl) sessions)

-- the limit of a queue in bytes (max-poll-result-size of newSession): what is asked for, put into the range of such limits; the
-- greatest where nothing is asked for
abbrev pub limit_of : Option ℕ → ℕ
limit_of None = greatest_limit
limit_of (Some asked) = within_range least_limit greatest_limit asked
