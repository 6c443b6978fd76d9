-- The live sessions as they are kept: rows, holders and last moments, and what ties them.
use Rattle.std.specs.Prelude.{◌≡◌, ◌⊎◌, ℕ, ◌+◌, ◌-◌, ◌^◌, ◌≤◌, ◌<◌, List, find, flat_map, length, map, IfSome, MatchOption, Option, None, Some, option_map, option_to_list, slice_get, slice_set, unwrap_or}
use Rattle.std.specs.Cmp.Lexicographic.{slice_cmp}
use Rattle.std.specs.List.{AllByRecursion, IsDistinct}
use Rattle.std.specs.List.Sorted.{IsStrictlySortedBy}
use Rattle.std.specs.Ordering.{nat_cmp, on}
use Rattle.std.specs.declared.cmp.Ordering.{Ordering}
use Rattle.ifmap_session.specs.declared.holders.Holder.{Holder}
use Rattle.ifmap_session.specs.declared.rows.SessionRow.{SessionRow}
use Rattle.ifmap_session.specs.Seats.{Seat}
use Rattle.ifmap_session.specs.SessionIds.{BeginsWithSerial}
use Rattle.ifmap_session.specs.Sessions.{Session, is_same_text, most_sessions, session_of_client, session_with_serial}
use Rattle.ifmap_session.specs.LastMoments.{IsPower, IsTree, node_value, due_nodes, no_moment, width_bound}

-- the sessions of rows: an empty row has none
abbrev pub seats_of : List SessionRow → List Seat
seats_of rows = flat_map (λ (r : SessionRow). option_to_list r.kept) rows

-- the live sessions of rows
abbrev pub live_in : List SessionRow → List Session
live_in rows = map (λ (s : Seat). s.session) (seats_of rows)

-- for how many more items the queue of each has room
abbrev pub spare_in : List SessionRow → List (ℕ × ℕ)
spare_in rows = map (λ (s : Seat). (s.session.serial, s.spare)) (seats_of rows)

-- rows by their serials
abbrev pub serial_order : SessionRow → SessionRow → Ordering
serial_order = on (λ (r : SessionRow). r.serial) nat_cmp

-- holders by their clients' names
abbrev pub client_order : Holder → Holder → Ordering
client_order = on (λ (h : Holder). h.client) (slice_cmp nat_cmp)

-- the holder of a client
abbrev pub holder_of : List ℕ → List Holder → Option Holder
holder_of client holders = find (λ h. is_same_text h.client client) holders

-- the session of a row has its serial, with which its id begins
pub record HasOwnSerial (serial : ℕ) (seat : Seat) : Type 0 where
  pub numbered : seat.session.serial ≡ serial
  pub id : BeginsWithSerial serial seat.session.id

-- the last moment of a row: the last moment of its session, or what no moment reaches
abbrev pub last_moment_of : SessionRow → ℕ
last_moment_of row = unwrap_or (option_map (λ (s : Seat). s.session.last) row.kept) no_moment

-- where the session of a serial stands, or that none is live
abbrev pub IsRowOf : ℕ → List SessionRow → Option ℕ → Type 0
IsRowOf serial rows place =
    MatchOption place
    (session_with_serial serial (live_in rows) ≡ None)
    (λ i. (i < length rows) × ((seat : Seat) × (slice_get rows i ≡ Some (record { serial = serial; kept = Some seat }))))

-- the seat is that of a row with that serial
abbrev pub IsSeatOf : ℕ → List SessionRow → Seat → Type 0
IsSeatOf serial rows seat = (i : ℕ) × (slice_get rows i ≡ Some (record { serial = serial; kept = Some seat }))

-- the serials of rows rise, and the session of each has the row's serial, with which its id begins
pub record AreOwn (rows : List SessionRow) : Type 0 where
  pub rising : IsStrictlySortedBy serial_order rows
  pub own : AllByRecursion (λ (r : SessionRow). IfSome r.kept (HasOwnSerial r.serial)) rows

-- what holds of the rows between two calls
pub record AreRows (counter : ℕ) (rows : List SessionRow) : Type 0 where
  pub small : counter < 2 ^ 64
  -- the serials rise, and end at the counter or before it
  pub own : AreOwn rows
  pub counted : AllByRecursion (λ (r : SessionRow). r.serial ≤ counter) rows
  -- a client has one session
  pub apart : IsDistinct is_same_text (map (λ (s : Session). s.client) (live_in rows))
  pub few : length (live_in rows) ≤ most_sessions

-- what holds of the holders: they are in order, and each leads to its client's session
pub record AreHolders (rows : List SessionRow) (holders : List Holder) : Type 0 where
  pub ordered : IsStrictlySortedBy client_order holders
  pub indexed : (client : List ℕ) → option_map (λ (h : Holder). h.serial) (holder_of client holders) ≡ option_map
      (λ (s : Session). s.serial) (session_of_client client (live_in rows))
  pub counts : length holders ≡ length (live_in rows)

-- each row has its last moment, and no other place has one
abbrev pub HasLastMoments : List SessionRow → ℕ → List ℕ → Type 0
HasLastMoments rows width tree =
    (place : ℕ) → place < width → node_value tree (width + place) ≡ unwrap_or (option_map last_moment_of (slice_get rows place)) no_moment

-- what holds of the last moments: each row has its own, and no other place has one
pub record AreLastMoments (rows : List SessionRow) (width : ℕ) (tree : List ℕ) : Type 0 where
  pub lesser : IsTree width tree
  pub power : (width ≡ 0) ⊎ IsPower width
  pub few : width < width_bound
  pub within : length rows ≤ width
  pub has_moments : HasLastMoments rows width tree

-- all of these
pub record AreTied (counter : ℕ) (rows : List SessionRow) (holders : List Holder) (width : ℕ) (tree : List ℕ) : Type 0 where
  pub sessions : AreRows counter rows
  pub clients : AreHolders rows holders
  pub moments : AreLastMoments rows width tree

-- the seat of a row is another, and P holds of it before and after; the other rows stay
abbrev pub Rewrites : ℕ → (Seat → Seat → Type 0) → List SessionRow → List SessionRow → Type 0
Rewrites place P old new =
    (serial : ℕ) (seat : Seat) → slice_get old place ≡ Some (record { serial = serial; kept = Some seat })
    → (after : Seat) × P seat after × (new ≡ slice_set old place (record { serial = serial; kept = Some after }))

-- a session is changed by f, and P holds of its seat before and after
abbrev pub ChangesSeat : (Session → Session) → (Seat → Seat → Type 0) → Seat → Seat → Type 0
ChangesSeat f P before after = (after.session ≡ f before.session) × P before after

-- a row has a session, of which P holds
abbrev pub IsTaken : (Seat → Type 0) → List SessionRow → ℕ → Type 0
IsTaken P rows place =
    (serial : ℕ) × ((seat : Seat) × (slice_get rows place ≡ Some (record { serial = serial; kept = Some seat })) × P seat)

-- the serial of a row
abbrev pub serial_at : List SessionRow → ℕ → ℕ
serial_at rows place = unwrap_or (option_map (λ (r : SessionRow). r.serial) (slice_get rows place)) 0

-- the serials of the rows whose last moments are no later than the limit
abbrev pub due_rows : List SessionRow → ℕ → List ℕ → ℕ → List ℕ
due_rows rows width tree limit = map (λ node. serial_at rows (node - width)) (due_nodes width tree limit)

-- last moments for these rows may be made anew: they have so many sessions
pub record CanWiden (rows : List SessionRow) (width live : ℕ) : Type 0 where
  pub power : (width ≡ 0) ⊎ IsPower width
  pub few : width < width_bound
  pub within : live ≤ width
  pub most : live ≤ most_sessions
  pub counts : live ≡ length (live_in rows)
