-- The machine's parts between two events, and while one is answered.
use Rattle.std.specs.Prelude.{◌≡◌, ◌≢◌, ◌≤◌, ℕ, false, List, [], ◌∷◌, length, map, Some, sum_by}
use Rattle.std.specs.List.{AllByRecursion}
use Rattle.std.specs.List.Sorted.{IsStrictlySortedBy}
use Rattle.ifmap_changes.specs.declared.parts.Parts.{Parts}
use Rattle.ifmap_tellings.specs.declared.tellings.Pending.{Pending}
use Rattle.ifmap_tellings.specs.Tellings.{AllKept, AloneAreBare, CanTell, EachTelling, HasSameSessions, IsSized, IsWide, kept_items, tell_by}
use Rattle.ifmap_tellings.specs.ifmap_delta.declared.subscriptions.Subscription.{Subscription}
use Rattle.ifmap_tellings.specs.ifmap_delta.SeenViews.{IsUpToDate, ViewSeen}
use Rattle.ifmap_tellings.specs.ifmap_delta.SameSearches.{HasSameSearch}
use Rattle.ifmap_ident.specs.declared.identifiers.Identifier.{Identifier}
use Rattle.ifmap_ident.specs.declared.items.Item.{Item}
use Rattle.ifmap_ident.specs.Identifiers.{identifier_order}
use Rattle.ifmap_tellings.specs.ifmap_machine.State.{State, standing_in, standing_order}
use Rattle.ifmap_tellings.specs.ifmap_machine.Subscribing.{most_names}
use Rattle.ifmap_tellings.specs.ifmap_machine.Telling.{is_overfull}
use Rattle.ifmap_graph.specs.ifmap_plans.Plans.{AreWhole}
use Rattle.ifmap_graph.specs.ifmap_pool.Holdings.{key_at, once}
use Rattle.ifmap_tellings.specs.ifmap_region.Marks.{mark_of}
use Rattle.ifmap_tellings.specs.ifmap_session.Sessions.{IsLive, Session, SessionTable, without_sessions}
use Rattle.ifmap_tellings.specs.ifmap_standing.declared.standing.Standing.{Standing}
use Rattle.ifmap_tellings.specs.ifmap_standing.Kept.{AtEach, KeepsSame, StaysRelated}
use Rattle.ifmap_tellings.specs.ifmap_standing.Standing.{standing_of}
use Rattle.ifmap_graph.specs.ifmap_view.Views.{IsView}
use Rattle.ifmap_graph.specs.Back.{KeepsBacks}
use Rattle.ifmap_graph.specs.Inside.{GraphInside, IsOwn}
use Rattle.ifmap_graph.specs.Seen.{AwaitsMore, IsLean, IsStill, StaysLean, StaysLeanWith, links_now, rows_now}

-- how many of these subscriptions start at an identifier
abbrev pub starts_of : Identifier → List Standing → ℕ
starts_of a standing = sum_by (λ x. once identifier_order x.subscription.search.start a) standing

-- a subscription has the number of its start
abbrev pub HasStartNumber : GraphInside → Standing → Type 0
HasStartNumber h x = key_at h.names x.subscription.region.start ≡ Some x.subscription.search.start

-- nothing is out in a graph, what it stores is whole, others than items hold an identifier as often as these subscriptions start
-- there, and each has the number of its start
pub record IsSteady (h : GraphInside) (standing : List Standing) : Type 0 where
  pub still : IsStill h
  pub whole : AreWhole (rows_now h)
  pub own : (a : Identifier) → IsOwn h a (starts_of a standing)
  pub numbered : AllByRecursion (HasStartNumber h) standing

-- the graph, as subscriptions see it
abbrev pub seen_now : GraphInside → ViewSeen
seen_now h = record { rows = rows_now h; id_at = key_at h.names; links = links_now h }

-- what holds of every view, of the graph
abbrev pub IsSeen : GraphInside → Type 0
IsSeen h = IsView (rows_now h) (key_at h.names) (links_now h)

-- each number that a subscription has marked has an identifier
abbrev pub HasLiveMarks : GraphInside → Subscription → Type 0
HasLiveMarks h sub = (v d : ℕ) → mark_of sub.region.marks.entries v ≡ Some d → (a : Identifier) × (key_at h.names v ≡ Some a)

-- no queue is greater than its limit, which one error is within
pub record IsWithinLimit (s : Session) : Type 0 where
  pub full : is_overfull s ≡ false
  pub wide : IsWide s.limit

abbrev pub AreWithinLimits : List Session → Type 0
AreWithinLimits live = AllByRecursion IsWithinLimit live

-- the subscriptions stand in order, each in a live session, and no session has more than it may
pub record AreOrdered (sessions : List Session) (standing : List Standing) : Type 0 where
  pub rising : IsStrictlySortedBy standing_order (map standing_of standing)
  pub live : AllByRecursion (λ x. IsLive x.serial sessions) standing
  pub few : (serial : ℕ) → length (standing_in serial (map standing_of standing)) ≤ most_names

-- the machine's state, as its parts have it
abbrev pub state_at : ℕ → ℕ → Parts → State
state_at ttl moment parts = record {
  moment = moment;
  ttl = ttl;
  counter = parts.sessions.counter;
  graph = rows_now parts.graph;
  sessions = parts.sessions.live;
  standing = map standing_of parts.standing.items;
}

-- what holds of the parts between two events
pub record AreParts (parts : Parts) : Type 0 where
  pub steady : IsSteady parts.graph parts.standing.items
  pub ordered : AreOrdered parts.sessions.live parts.standing.items
  pub kept : AllByRecursion (λ x. IsUpToDate (seen_now parts.graph) x.subscription) parts.standing.items
  pub within : AreWithinLimits parts.sessions.live

-- and of the machine
pub record IsCore (ttl : ℕ) (parts : Parts) : Type 0 where
  pub sound : AreParts parts
  pub lean : IsLean [] parts.graph
  pub time : 1 ≤ ttl

-- who asks, at which moment, after how many seconds sessions are expired, and which are, though they still stand in the table
pub record Asking : Type 0 where
  pub client : List ℕ
  pub moment : ℕ
  pub ttl : ℕ
  pub ended : List ℕ

-- the sessions that are left
abbrev pub sessions_left : Asking → SessionTable → List Session
sessions_left a table = without_sessions a.ended table.live

abbrev pub rest_of : Asking → SessionTable → SessionTable
rest_of a table = record table { live = sessions_left a table }

-- the subscriptions that are left
abbrev pub standing_left : Parts → Pending → List Standing
standing_left parts pending = kept_items pending.gone.items parts.standing.items

-- the state that an event is answered in: of what was changed all is told, though it is still to be queued
abbrev pub state_now : Asking → Parts → Pending → State
state_now a parts pending = record {
  moment = a.moment;
  ttl = a.ttl;
  counter = parts.sessions.counter;
  graph = rows_now parts.graph;
  sessions = map (tell_by pending.tellings) (sessions_left a parts.sessions);
  standing = map standing_of (standing_left parts pending);
}

-- these sessions can end one after the other
abbrev pub CanEnd : List ℕ → List Session → Type 0
CanEnd [] live = Unit {0}
CanEnd (n ∷ serials) live = IsLive n live × CanEnd serials (without_sessions (n ∷ []) live)

-- no subscription of a session is left
abbrev pub HasNoSubscriptions : ℕ → Parts → Pending → Type 0
HasNoSubscriptions serial parts pending = AllKept (λ x. x.serial ≢ serial) pending.gone.items parts.standing.items

-- what holds of the parts while an event is answered, but for the graph alone
pub record IsSoundSoFar (a : Asking) (parts : Parts) (pending : Pending) : Type 0 where
  pub ended : CanEnd a.ended parts.sessions.live
  pub ordered : AreOrdered parts.sessions.live parts.standing.items
  pub flags : length pending.gone.items ≡ length parts.standing.items
  -- what is not gone keeps what the graph has, and is of a session that is left
  pub kept : AllKept (λ x. IsUpToDate (seen_now parts.graph) x.subscription) pending.gone.items parts.standing.items
  pub live : AllKept (λ x. IsLive x.serial (sessions_left a parts.sessions)) pending.gone.items parts.standing.items
  -- no queue is greater than its limit, also once all is told, which there is room for
  pub queues : AreWithinLimits parts.sessions.live
  pub within : AreWithinLimits (map (tell_by pending.tellings) (sessions_left a parts.sessions))
  pub can_tell : EachTelling (CanTell (rest_of a parts.sessions)) pending.tellings
  pub sized : EachTelling (λ n t. IsSized n t parts.sessions.live) pending.tellings
  -- who is told one error in place of all has no subscription left
  pub alone : AloneAreBare pending.tellings pending.gone.items parts.standing.items

-- parts are later ones, and these items came to be out: what was waited for is still, nothing is left behind, and sessions and searches are
-- what they were
pub record AreLaterPartsWith (items : List Item) (old new : Parts) : Type 0 where
  pub waits : AwaitsMore items old.graph new.graph
  pub lean : StaysLeanWith items old.graph new.graph
  pub searches : AtEach (λ _. StaysRelated HasSameSearch) old.standing.items new.standing.items
  pub sessions : HasSameSessions old.sessions new.sessions

-- the same where none came to be
abbrev pub AreLaterParts : Parts → Parts → Type 0
AreLaterParts = AreLaterPartsWith []

-- a change was made while an event is answered, and these items came to be out: the graph is steady, what is so far is sound, and the
-- parts are later ones
pub record AreChangedWith (items : List Item) (a : Asking) (old new : Parts) (after : Pending) : Type 0 where
  pub steady : IsSteady new.graph new.standing.items
  pub ready : IsSoundSoFar a new after
  pub later : AreLaterPartsWith items old new

-- the same where none came to be
abbrev pub AreChanged : Asking → Parts → Parts → Pending → Type 0
AreChanged = AreChangedWith []

-- numbers that have an identifier in both graphs have the same
abbrev pub SharesNumbers : GraphInside → GraphInside → Type 0
SharesNumbers old new = (v : ℕ) (a b : Identifier) → key_at old.names v ≡ Some a → key_at new.names v ≡ Some b → b ≡ a

-- all is as it was but for room
pub record AreBack (old new : Parts) : Type 0 where
  pub steady : IsSteady new.graph new.standing.items
  pub rows : rows_now new.graph ≡ rows_now old.graph
  pub links : (v : ℕ) → links_now new.graph v ≡ links_now old.graph v
  pub numbers : SharesNumbers old.graph new.graph
  pub lean : StaysLean old.graph new.graph
  pub standing : AtEach (λ _. StaysRelated KeepsSame) old.standing.items new.standing.items
  pub sessions : HasSameSessions old.sessions new.sessions

-- what was begun was given up: all is as it was but for room, and ways back stay
pub record AreKept (old new : Parts) : Type 0 where
  pub back : AreBack old new
  pub backs : KeepsBacks old.graph new.graph
