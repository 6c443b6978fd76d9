-- What an event has changed and not yet told: which subscriptions stand no longer, and what sessions are to be told.
use Rattle.std.specs.Prelude.{◌≡◌, ◌≢◌, ◌<◌, ◌≤◌, ◌^◌, ◌-◌, ◌||◌, ◌==◌, ℕ, Bool, true, false, List, [], ◌++◌, filter, flat_map, length, map, Option, None, Some, IsSome, slice_get}
use Rattle.std.specs.BTreeMap.{BTreeMap, get}
use Rattle.std.specs.List.{AllByRecursion, zip}
use Rattle.std.specs.Ordering.{nat_cmp}
pub use Rattle.ifmap_lemmas.specs.Keeping.{kept_items}
pub use Rattle.ifmap_standing.specs.Kept.{AllKept}
use Rattle.ifmap_tellings.specs.declared.tellings.Telling.{Telling}
use Rattle.ifmap_tellings.specs.declared.tellings.Telling.TheVariants.{After, Alone}
use Rattle.ifmap_ident.specs.declared.codes.Code.TheVariants.{PollResultsTooBig}
use Rattle.ifmap_standing.specs.ifmap_machine.Telling.{is_overfull, tell_session}
use Rattle.ifmap_search.specs.declared.results.PollItem.{PollItem}
use Rattle.ifmap_search.specs.declared.results.PollItem.TheVariants as the_item
use Rattle.ifmap_search.specs.Sizes.{queue_size, size_beside_entries}
use Rattle.ifmap_standing.specs.ifmap_session.Sessions.{IsLive, Session, SessionTable, session_with_serial, spare_of, with_error}
use Rattle.ifmap_standing.specs.declared.standing.Standing.{Standing}
use Rattle.ifmap_standing.specs.declared.telling.News.{News}

-- tellings by the serials of their sessions
abbrev pub Tellings : Type 0
Tellings = BTreeMap ℕ Telling

-- a session that is told something: more than it had to tell, or one error in place of all
abbrev pub tell_if : Option Telling → Session → Session
tell_if None s = s
tell_if (Some (After items size)) s = tell_session items s
tell_if (Some (Alone error)) s = with_error error s

abbrev pub tell_by : Tellings → Session → Session
tell_by tellings s = tell_if (get nat_cmp tellings s.serial) s

-- how many items a telling puts into a queue
abbrev pub count_told : Telling → ℕ
count_told (After items size) = length items
count_told (Alone error) = 1

-- and none where there is no telling
abbrev pub count_where : Option Telling → ℕ
count_where None = 0
count_where (Some t) = count_told t

-- whether it is one error in place of all
abbrev pub is_alone : Option Telling → Bool
is_alone None = false
is_alone (Some (After items size)) = false
is_alone (Some (Alone error)) = true

-- items are added to what a session is to be told, where there was something or not
pub record AddsTo (items : List PollItem) (old new : Option Telling) : Type 0 where
  pub told : (s : Session) → tell_if new s ≡ tell_session items (tell_if old s)
  -- what is alone stays so, and nothing else is
  pub alone : is_alone new ≡ is_alone old
  -- where nothing was, there is something only with items
  pub brought : IsSome new → old ≡ None → items ≢ []
  -- what was is there still
  pub kept : new ≡ None → old ≡ None

-- the size that a telling keeps is that of the queue that it makes; one that is alone is the error for size
abbrev pub IsSized : ℕ → Telling → List Session → Type 0
IsSized n (After items size) live =
    (s : Session) → session_with_serial n live ≡ Some s → (size ≡ queue_size (s.queue ++ items)) × (size < 2 ^ 64 - 1)
IsSized n (Alone error) live = (note : List ℕ) × (error ≡ the_item.Error None PollResultsTooBig note)

-- a telling is of a live session, whose queue has room for it
pub record CanTell (table : SessionTable) (n : ℕ) (t : Telling) : Type 0 where
  pub live : IsLive n table.live
  pub room : count_told t ≤ spare_of n table.spare

-- P holds of each serial with its telling
abbrev pub EachTelling : (ℕ → Telling → Type 0) → Tellings → Type 0
EachTelling P tellings = (n : ℕ) (t : Telling) → get nat_cmp tellings n ≡ Some t → P n t

-- the queue of a session that is to be told nothing is within its limit
abbrev pub AreUntoldWithinLimits : Tellings → List Session → Type 0
AreUntoldWithinLimits tellings live =
    (n : ℕ) (s : Session) → session_with_serial n live ≡ Some s → get nat_cmp tellings n ≡ None → is_overfull s ≡ false

-- one error in place of all, which has no entries, is within a limit
abbrev pub IsWide : ℕ → Type 0
IsWide limit = size_beside_entries ≤ limit

-- it is within that of each session
abbrev pub AreWide : List Session → Type 0
AreWide live = AllByRecursion (λ (s : Session). IsWide s.limit) live

-- what there is to queue for a session of the news of each subscription
abbrev pub items_for : ℕ → List Standing → List News → List PollItem
items_for serial standing news =
    flat_map (λ (p : Standing × News). p.1.items) (filter (λ (p : Standing × News). p.0.serial == serial) (zip standing news))

-- a session that was told one error in place of all is told nothing more
abbrev pub LeaveAlone : Tellings → List Standing → List News → Type 0
LeaveAlone tellings standing news = (n : ℕ) → is_alone (get nat_cmp tellings n) ≡ true → items_for n standing news ≡ []

-- also gone is what is too big now, and what is of a session that is told one error in place of all
abbrev pub flags_since : List Bool → List News → List Bool
flags_since gone news = map (λ (p : Bool × News). p.0 || p.1.is_too_big) (zip gone news)

abbrev pub flags_of_alone : Tellings → List Bool → List Standing → List Bool
flags_of_alone tellings gone standing = map (λ (p : Bool × Standing). p.0 || is_alone (get nat_cmp tellings p.1.serial)) (zip gone standing)

-- the same sessions and counter; the room for more, and that of each queue, is no less
pub record HasSameSessions (old new : SessionTable) : Type 0 where
  pub live : new.live ≡ old.live
  pub counter : new.counter ≡ old.counter
  pub spare : (n : ℕ) → spare_of n old.spare ≤ spare_of n new.spare
  pub room : old.room ≤ new.room

-- who is told one error in place of all has no subscription left
abbrev pub AloneAreBare : Tellings → List Bool → List Standing → Type 0
AloneAreBare tellings gone standing = (n : ℕ) → is_alone (get nat_cmp tellings n) ≡ true → AllKept (λ x. x.serial ≢ n) gone standing

-- there is nothing to queue of what is gone
abbrev pub SkipsGone : List Bool → List News → Type 0
SkipsGone gone news = (i : ℕ) (one : News) → slice_get gone i ≡ Some true → slice_get news i ≡ Some one → one.items ≡ []
