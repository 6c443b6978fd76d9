-- What becomes of the names of a subscribe, once all is ready.
use Rattle.std.specs.Prelude.{◌≡◌, ◌+◌, ◌≤◌, ◌++◌, ℕ, false, List, [], ◌∷◌, filter, flat_map, length, map, Option, None, Some, option_to_list, sum_by, vec_capacity, vec_len}
use Rattle.std.specs.Cmp.Lexicographic.{slice_cmp}
use Rattle.std.specs.List.{AllByRecursion, list_any}
use Rattle.std.specs.List.Sorted.{IsStrictlySortedBy}
use Rattle.std.specs.Ordering.{nat_cmp, ordering_then}
use Rattle.std.specs.declared.cmp.Ordering.{Ordering}
use Rattle.ifmap_changes.specs.Between.{Asking, IsSteady, seen_now, state_now}
use Rattle.ifmap_subscribes.specs.declared.names.NameNow.{NameNow}
use Rattle.ifmap_changes.specs.declared.parts.Parts.{Parts}
use Rattle.ifmap_subscribes.specs.declared.renamings.Renaming.{Renaming}
use Rattle.ifmap_changes.specs.ifmap_delta.declared.subscriptions.Subscription.{Subscription}
use Rattle.ifmap_changes.specs.ifmap_delta.SeenViews.{IsUpToDate}
use Rattle.ifmap_changes.specs.ifmap_machine.State as machine
use Rattle.ifmap_changes.specs.ifmap_machine.State.{standing_order}
use Rattle.ifmap_changes.specs.ifmap_machine.Subscribing.{Told, drop_name, is_of_name}
use Rattle.ifmap_changes.specs.ifmap_machine.Telling.{is_overfull}
use Rattle.ifmap_changes.specs.ifmap_plans.Placing.{put}
use Rattle.ifmap_changes.specs.ifmap_pool.Holdings.{key_at}
use Rattle.ifmap_search.specs.Sizes.{queue_size}
use Rattle.ifmap_changes.specs.ifmap_session.Sessions.{IsLive, Session, change, is_named, session_with_serial, spare_of}
use Rattle.ifmap_changes.specs.ifmap_standing.declared.standing.Standing.{Standing}
use Rattle.ifmap_changes.specs.ifmap_standing.Standing.{standing_of}
use Rattle.ifmap_changes.specs.ifmap_tellings.declared.tellings.Pending.{Pending}
use Rattle.ifmap_changes.specs.ifmap_tellings.Tellings.{EachTelling, IsSized, Tellings}
use Rattle.ifmap_changes.specs.ifmap_graph.Inside.{GraphInside}
use Rattle.ifmap_changes.specs.ifmap_graph.Back.{KeepsBacks}
use Rattle.ifmap_changes.specs.ifmap_graph.Seen.{AwaitsMore, BringsNoNumbers, StaysLean, links_now, rows_now}

-- how a subscription stands to that of a session under a name: by session, then by name
abbrev pub order_to_name : ℕ → List ℕ → Standing → Ordering
order_to_name serial name x = ordering_then (nat_cmp x.serial serial) (slice_cmp nat_cmp x.name name)

-- one more subscription stands, where there is one
abbrev pub stand_where : Option Standing → List machine.Standing → List machine.Standing
stand_where None standing = standing
stand_where (Some x) standing = put standing_order (standing_of x) standing

-- nothing of the name is to be told, and its subscription goes; what there is comes in their place
abbrev pub rename : ℕ → Renaming → Told → Told
rename serial r t = record {
  queue = (drop_name serial r.name t).queue ++ option_to_list r.item;
  standing = stand_where r.standing (drop_name serial r.name t).standing;
}

-- one after the other
abbrev pub rename_all : ℕ → List Renaming → Told → Told
rename_all serial [] t = t
rename_all serial (r ∷ rs) t = rename_all serial rs (rename serial r t)

-- the subscriptions that are to stand
abbrev pub starts_by : List Renaming → List Standing
starts_by renamings = flat_map (λ (r : Renaming). option_to_list r.standing) renamings

-- what there is to queue
abbrev pub item_count : List Renaming → ℕ
item_count renamings = sum_by (λ (r : Renaming). length (option_to_list r.item)) renamings

-- a renaming is of a session: the subscription that is to stand has its serial and the renaming's name
abbrev pub IsOfSession : ℕ → Renaming → Type 0
IsOfSession serial r = AllByRecursion (λ (x : Standing). (x.serial ≡ serial) × (x.name ≡ r.name)) (option_to_list r.standing)

-- a subscription that keeps what a graph has keeps what another has, where its start has its number there
abbrev pub KeepsNumbered : GraphInside → GraphInside → Type 0
KeepsNumbered old new =
    (sub : Subscription) → key_at new.names sub.region.start ≡ Some sub.search.start
    → IsUpToDate (seen_now old) sub → IsUpToDate (seen_now new) sub

-- holds of numbers were let go of: what is stored, the links, the ways back and what is waited for stay, nothing is left behind, no
-- number comes, and what is kept is kept still
pub record LetsNumbersGo (old new : GraphInside) : Type 0 where
  pub rows : rows_now new ≡ rows_now old
  pub links : (v : ℕ) → links_now new v ≡ links_now old v
  pub numbers : BringsNoNumbers old new
  pub backs : KeepsBacks old new
  pub waits : AwaitsMore [] old new
  pub lean : StaysLean old new
  pub kept : KeepsNumbered old new

-- one more stands somewhere among these, where there is one
abbrev pub StandsAmong : Option Standing → List Standing → List Standing → Type 0
StandsAmong begun old new =
    (front : List Standing) × (back : List Standing) × (old ≡ front ++ back) × (new ≡ front ++ (option_to_list begun ++ back))

-- what is so of a name: whether its subscription stands, and the size of what there is to tell of it
pub record IsNameNow (serial : ℕ) (name : List ℕ) (t : Told) (now : NameNow) : Type 0 where
  pub stands : now.stands ≡ list_any (is_of_name serial name) t.standing
  pub size : now.size ≡ queue_size (filter (is_named name) t.queue)

-- sizes are exact, of the queue of a session and of what is pending: the session lives, what is pending of sessions has its size, and
-- no queue is greater than its limit
pub record HasExactSizes (serial : ℕ) (sessions : List Session) (tellings : Tellings) : Type 0 where
  pub live : IsLive serial sessions
  pub sized : EachTelling (λ n t. IsSized n t sessions) tellings
  pub within : AllByRecursion (λ s. is_overfull s ≡ false) sessions

-- what a session has to tell and the subscriptions that stand, as parts have them
abbrev pub told_in_parts : Parts → Session → Told
told_in_parts parts s = record { queue = s.queue; standing = map standing_of parts.standing.items }

-- what a session has to tell so far, and the subscriptions that are left
abbrev pub told_so_far : Asking → Parts → Pending → Session → Told
told_so_far a parts pending s = record { queue = s.queue; standing = (state_now a parts pending).standing }

-- renamings can be made in parts where all that was pending is told: each is of the session, the subscriptions that are to stand keep
-- what the graph has and hold their starts, and there is room
pub record CanRenameEach (serial : ℕ) (renamings : List Renaming) (parts : Parts) : Type 0 where
  pub live : IsLive serial parts.sessions.live
  pub session : AllByRecursion (IsOfSession serial) renamings
  pub steady : IsSteady parts.graph (parts.standing.items ++ starts_by renamings)
  pub ordered : IsStrictlySortedBy standing_order (map standing_of parts.standing.items)
  pub kept : AllByRecursion (λ x. IsUpToDate (seen_now parts.graph) x.subscription) (parts.standing.items ++ starts_by renamings)
  pub places : vec_len parts.standing + length renamings ≤ vec_capacity parts.standing
  pub room : item_count renamings ≤ spare_of serial parts.sessions.spare

-- renamings were made: the queue of the session and the subscriptions are what the definition makes of them
pub record AreRenamed (serial : ℕ) (renamings : List Renaming) (old new : Parts) : Type 0 where
  pub told : (s : Session) → session_with_serial serial old.sessions.live ≡ Some s
      → (map standing_of new.standing.items ≡ (rename_all serial renamings (told_in_parts old s)).standing)
      × (new.sessions.live ≡ change serial
      (λ (x : Session). record x { queue = (rename_all serial renamings (told_in_parts old s)).queue }) old.sessions.live)
  pub counter : new.sessions.counter ≡ old.sessions.counter
  pub rows : rows_now new.graph ≡ rows_now old.graph
  pub lean : StaysLean old.graph new.graph
