-- The operations of a subscribe, while they are made ready.
use Rattle.std.specs.Prelude.{◌≡◌, ◌≢◌, ◌≤◌, ◌<◌, ◌+◌, ◌-◌, ◌*◌, ◌^◌, ◌⊎◌, ◌++◌, ◌∷◌, ℕ, Err, List, [], OnOk, Result, filter, is_some, length, Option, None, Some, option_to_list, if◌then◌else◌}
use Rattle.std.specs.BTreeMap.{get}
use Rattle.std.specs.Cmp.Lexicographic.{slice_cmp}
use Rattle.std.specs.List.{AllByRecursion, list_any}
use Rattle.std.specs.List.Sorted.{IsStrictlySortedBy}
use Rattle.std.specs.Ordering.{nat_cmp}
use Rattle.ifmap_changes.specs.Between.{Asking, IsSoundSoFar, IsSteady, SharesNumbers, sessions_left, seen_now, state_now, starts_of}
use Rattle.ifmap_changes.specs.declared.parts.Parts.{Parts}
use Rattle.ifmap_changes.specs.ifmap_delta.SeenViews.{IsUpToDate}
use Rattle.ifmap_changes.specs.ifmap_graph.Back.{KeepsBacks}
use Rattle.ifmap_changes.specs.ifmap_graph.Inside.{GraphInside, IsOwn}
use Rattle.ifmap_changes.specs.ifmap_graph.Seen.{AwaitsMore, BringsNoNumbers, IsStill, KeepsNumbers, StaysLean, links_now, rows_now}
use Rattle.ifmap_ident.specs.declared.identifiers.Identifier.{Identifier}
use Rattle.ifmap_ident.specs.Identifiers.{identifier_order}
use Rattle.ifmap_changes.specs.ifmap_machine.State.{standing_in, standing_order}
use Rattle.ifmap_changes.specs.ifmap_machine.Subscribing.{Told, begin_name, drop_name, is_of_name, most_names}
use Rattle.ifmap_changes.specs.ifmap_plans.Plans.{AreWhole}
use Rattle.ifmap_changes.specs.ifmap_requests.Fit.{IsFitSearch}
use Rattle.ifmap_changes.specs.ifmap_pool.Holdings.{key_at, once}
use Rattle.ifmap_search.specs.declared.results.PollItem.{PollItem}
use Rattle.ifmap_search.specs.declared.searches.Search.{Search}
use Rattle.ifmap_search.specs.Sizes.{poll_size, queue_size}
use Rattle.ifmap_changes.specs.ifmap_session.Sessions.{IsLive, Session, is_named, session_with_serial}
use Rattle.ifmap_changes.specs.ifmap_standing.declared.standing.Standing.{Standing}
use Rattle.ifmap_subscribes.specs.Renamings.{IsNameNow, IsOfSession, rename, rename_all, starts_by}
use Rattle.ifmap_subscribes.specs.declared.names.NameNow.{NameNow}
use Rattle.ifmap_subscribes.specs.declared.readying.Readying.{Readying}
use Rattle.ifmap_subscribes.specs.declared.readying.Occasion.{Occasion}
use Rattle.ifmap_subscribes.specs.declared.readying.SubscribeError.{SubscribeError}
use Rattle.ifmap_subscribes.specs.declared.readying.SubscribeError.TheVariants.{TooMany}
use Rattle.ifmap_subscribes.specs.declared.renamings.Renaming.{Renaming}
use Rattle.ifmap_changes.specs.ifmap_tellings.declared.tellings.Pending.{Pending}
use Rattle.ifmap_changes.specs.ifmap_view.declared.attachments.Attachment.{Attachment}

-- what a session has to tell, if it is live
abbrev pub queue_where : Option Session → List PollItem
queue_where None = []
queue_where (Some s) = s.queue

-- what a session has to tell so far, and the subscriptions that are left
abbrev pub told_at : ℕ → Asking → Parts → Pending → Told
told_at serial a parts pending = record {
  queue = queue_where (session_with_serial serial (state_now a parts pending).sessions);
  standing = (state_now a parts pending).standing;
}

-- and after these renamings
abbrev pub told_after : ℕ → Readying → Told → Told
told_after serial readying t = rename_all serial readying.made.items t

-- the same of the session of a scene
abbrev pub told_in_scene : Occasion → Parts → Told
told_in_scene scene parts = told_at scene.serial scene.asking.now parts scene.pending.now

abbrev pub told_then : Occasion → Parts → Readying → Told
told_then scene parts readying = told_after scene.serial readying (told_in_scene scene parts)

-- what is so of a name is what was so before
pub record IsNameBefore (serial : ℕ) (name : List ℕ) (before after : Told) : Type 0 where
  pub stands : list_any (is_of_name serial name) after.standing ≡ list_any (is_of_name serial name) before.standing
  pub queue : filter (is_named name) after.queue ≡ filter (is_named name) before.queue

-- how many operations are made ready at most: more than memory holds
abbrev pub most_ops : ℕ
most_ops = 2 ^ 30

-- what is kept of renamings is so: of each name, how many subscriptions the session has, and the size of what it is to be told, which
-- each adds less than 2^64 to; and the subscriptions stand in order
pub record AreCounted (serial : ℕ) (t : Told) (readying : Readying) : Type 0 where
  pub rising : IsStrictlySortedBy standing_order (told_after serial readying t).standing
  pub names : (name : List ℕ) (now : NameNow) → get (slice_cmp nat_cmp) readying.names name ≡ Some now
      → IsNameNow serial name (told_after serial readying t) now
  pub others : (name : List ℕ) → get (slice_cmp nat_cmp) readying.names name ≡ None
      → IsNameBefore serial name t (told_after serial readying t)
  pub count : readying.count ≡ length (standing_in serial (told_after serial readying t).standing)
  pub few : readying.count ≤ most_names
  pub size : readying.size ≡ queue_size (told_after serial readying t).queue
  pub narrow : readying.size < 2 ^ 64 + length readying.made.items * 2 ^ 64
  pub most : length readying.made.items ≤ most_ops

-- what is to stand can: it is of the session, keeps what the graph has, and holds its start beside what stands
pub record CanStand (serial : ℕ) (parts : Parts) (renamings : List Renaming) : Type 0 where
  pub session : AllByRecursion (IsOfSession serial) renamings
  pub steady : IsSteady parts.graph (parts.standing.items ++ starts_by renamings)
  pub kept : AllByRecursion (λ x. IsUpToDate (seen_now parts.graph) x.subscription) (starts_by renamings)

-- operations are ready: what is to stand can, and what is kept of them is so
pub record AreReadied (serial : ℕ) (t : Told) (parts : Parts) (readying : Readying) : Type 0 where
  pub stand : CanStand serial parts readying.made.items
  pub counted : AreCounted serial t readying

-- an operation can be made ready: the parts are ready for it, the session lives, and what is kept of those before it is so
pub record CanReady (scene : Occasion) (parts : Parts) (readying : Readying) : Type 0 where
  pub ready : IsSoundSoFar scene.asking.now parts scene.pending.now
  pub live : IsLive scene.serial (sessions_left scene.asking.now parts.sessions)
  pub readied : AreReadied scene.serial (told_in_scene scene parts) parts readying

-- the first operation can be made ready: the graph is steady, what is so far is sound, and the session lives
pub record CanReadyFirst (scene : Occasion) (parts : Parts) : Type 0 where
  pub steady : IsSteady parts.graph parts.standing.items
  pub ready : IsSoundSoFar scene.asking.now parts scene.pending.now
  pub live : IsLive scene.serial (sessions_left scene.asking.now parts.sessions)

-- identifiers are held, and nothing else that is seen changes
pub record OnlyHolds (old new : Parts) : Type 0 where
  pub rows : rows_now new.graph ≡ rows_now old.graph
  pub links : (v : ℕ) → links_now new.graph v ≡ links_now old.graph v
  pub numbers : KeepsNumbers old.graph new.graph
  pub backs : KeepsBacks old.graph new.graph
  pub waits : AwaitsMore [] old.graph new.graph
  pub lean : StaysLean old.graph new.graph
  pub sessions : new.sessions ≡ old.sessions
  pub standing : new.standing ≡ old.standing

-- a subscription of a name to a search can be made ready: operations can, the search is fit, and this is so of the name
pub record CanReadyUpdate (scene : Occasion) (parts : Parts) (readying : Readying) (name : List ℕ) (search : Search) (now : NameNow)
    : Type 0 where
  pub can : CanReady scene parts readying
  pub fit : IsFitSearch search
  pub before : IsNameNow scene.serial name (told_then scene parts readying) now

-- what was made ready becomes, of what there is to tell, what operations make of it, or there is no room for a name where they make
-- nothing; in both cases more can be made ready, and identifiers are held and nothing else that is seen changes
pub record MakesReady {X : Type 0} (result : Result X SubscribeError) (becomes : Told → Option Told) (scene : Occasion) (old new : Parts)
    (before after : Readying) : Type 0 where
  pub made : OnOk result (becomes (told_then scene old before) ≡ Some (told_then scene old after))
  pub full : result ≡ Err TooMany → becomes (told_then scene old before) ≡ None
  pub can : CanReady scene new after
  pub holds : OnlyHolds old new

-- what was held is let go of again: all is steady, and nothing else that is seen changes
pub record IsGivenUp (old new : Parts) : Type 0 where
  pub steady : IsSteady new.graph new.standing.items
  pub rows : rows_now new.graph ≡ rows_now old.graph
  pub links : (v : ℕ) → links_now new.graph v ≡ links_now old.graph v
  pub numbers : SharesNumbers old.graph new.graph
  pub backs : KeepsBacks old.graph new.graph
  pub waits : AwaitsMore [] old.graph new.graph
  pub lean : StaysLean old.graph new.graph
  pub sessions : new.sessions ≡ old.sessions
  pub standing : new.standing ≡ old.standing

-- the same of a graph alone
pub record GraphHolds (old new : GraphInside) : Type 0 where
  pub rows : rows_now new ≡ rows_now old
  pub links : (v : ℕ) → links_now new v ≡ links_now old v
  pub numbers : KeepsNumbers old new
  pub backs : KeepsBacks old new
  pub waits : AwaitsMore [] old new
  pub lean : StaysLean old new

-- holds were let go of, and nothing else that is seen changes
pub record IsReleased (old new : GraphInside) : Type 0 where
  pub rows : rows_now new ≡ rows_now old
  pub links : (v : ℕ) → links_now new v ≡ links_now old v
  pub numbers : BringsNoNumbers old new
  pub backs : KeepsBacks old new
  pub waits : AwaitsMore [] old new
  pub lean : StaysLean old new

-- beside these subscriptions one hold of a number is out, of that identifier
pub record IsHolding (h : GraphInside) (standing : List Standing) (number : ℕ) (id : Identifier) : Type 0 where
  pub still : IsStill h
  pub whole : AreWhole (rows_now h)
  pub own : (a : Identifier) → IsOwn h a (starts_of a standing + once identifier_order id a)
  pub numbered : AllByRecursion (λ x. key_at h.names x.subscription.region.start ≡ Some x.subscription.search.start) standing
  pub start : key_at h.names number ≡ Some id

-- the item of a renaming is of a size that is counted
abbrev pub IsSmall : Renaming → Type 0
IsSmall r = AllByRecursion (λ item. poll_size item < 2 ^ 64 - 1) (option_to_list r.item)

-- a renaming begins the subscription of a name to a search: it makes of what there is to tell what the definition makes of it, it is of
-- the session, and its item is of a size that is counted
pub record BeginsName (rows : List Attachment) (serial : ℕ) (name : List ℕ) (search : Search) (renaming : Renaming) : Type 0 where
  pub begun : (t : Told) → rename serial renaming t ≡ begin_name rows serial name search (drop_name serial name t)
  pub named : renaming.name ≡ name
  pub session : IsOfSession serial renaming
  pub small : IsSmall renaming

-- what is so of a name after its renaming
abbrev pub now_of : Renaming → NameNow
now_of r = record { stands = is_some r.standing; size = queue_size (option_to_list r.item) }

-- only what is so of one name may be noted, and it is this
pub record IsNoted (name : List ℕ) (now : NameNow) (old new : Readying) : Type 0 where
  pub made : new.made.items ≡ old.made.items
  pub count : new.count ≡ old.count
  pub size : new.size ≡ old.size
  pub names : (other : List ℕ) → (get (slice_cmp nat_cmp) new.names other ≡ get (slice_cmp nat_cmp) old.names other)
      ⊎ ((other ≡ name) × (get (slice_cmp nat_cmp) new.names other ≡ Some now))

-- one renaming more was made ready, of a name of which this was so before it
pub record IsAdded (now : NameNow) (renaming : Renaming) (old new : Readying) : Type 0 where
  pub made : new.made.items ≡ old.made.items ++ renaming ∷ []
  pub name : get (slice_cmp nat_cmp) new.names renaming.name ≡ Some (now_of renaming)
  pub others : (other : List ℕ) → other ≢ renaming.name
      → get (slice_cmp nat_cmp) new.names other ≡ get (slice_cmp nat_cmp) old.names other
  pub count : new.count + (if now.stands then 1 else 0) ≡ old.count + length (option_to_list renaming.standing)
  pub size : new.size + now.size ≡ old.size + queue_size (option_to_list renaming.item)
