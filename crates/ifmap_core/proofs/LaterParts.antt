-- Parts that stay, later parts, and parts that are back: of themselves, and one after the other.
-- Plan: (1) of themselves: the same sessions, shared numbers, kept and later parts; (2) one after the other; (3) what is back
-- is what it was, and subscriptions keep what they kept where numbers are shared (`keeps_there`, `all_there`);
-- (4) parts of which only room changed, before or after a change (`kept_room`, `later_in_room`, `room_kept`); (5) parts at the
-- start.
use Rattle.std.proofs.Common.{◌≡◌, refl, sym, ◌∙◌, ap, subst, ℕ, List, [], ◌∷◌, Some, arith}
use Rattle.std.proofs.lemmas.Option.{same_Some}
use Rattle.std.specs.List.{AllByRecursion}
use Rattle.std.specs.List.Sorted.{IsStrictlySortedBy}
use Rattle.ifmap_subscribes.specs.ifmap_changes.Between.{AreBack, AreKept, AreOrdered, AreParts, AreLaterParts, IsSteady, SharesNumbers, seen_now, state_at, IsSeen}
use Rattle.ifmap_subscribes.specs.ifmap_changes.declared.parts.Parts.{Parts}
use Rattle.ifmap_core.proofs.Places.{searched_itself, shown_kept}
use Rattle.ifmap_subscribes.specs.ifmap_delta.SeenViews.{IsUpToDate, SameLinks}
use Rattle.ifmap_subscribes.specs.ifmap_graph.Back.{KeepsBacks}
use Rattle.ifmap_subscribes.specs.ifmap_graph.Inside.{GraphInside, IsOwn}
use Rattle.ifmap_subscribes.specs.ifmap_graph.Seen.{IsStill, KeepsNumbers, StaysLean, links_now, rows_now}
use Rattle.ifmap_ident.specs.declared.identifiers.Identifier.{Identifier}
use Rattle.ifmap_subscribes.specs.ifmap_machine.State as machine
use Rattle.ifmap_subscribes.specs.ifmap_pool.Holdings.{key_at}
use Rattle.ifmap_session.specs.Sessions.{Session}
use Rattle.ifmap_subscribes.specs.ifmap_standing.declared.standing.Standing.{Standing}
use Rattle.ifmap_subscribes.specs.ifmap_standing.Kept.{AtEach, KeepsSame, StaysRelated}
use Rattle.ifmap_subscribes.specs.ifmap_standing.Standing.{standing_of}
use Rattle.ifmap_subscribes.specs.ifmap_tellings.Tellings.{HasSameSessions}
use Rattle.ifmap_subscribes.specs.ifmap_standing.PlaceLaws.{at_each_map, kept_itself, searched_twice}
use Rattle.ifmap_subscribes.specs.ifmap_tellings.ToldLaws.{same_sessions_itself, same_twice}
use Rattle.ifmap_subscribes.specs.Renamings.{KeepsNumbered}

-- ---- of themselves

pub shares_itself : (h : GraphInside) → SharesNumbers h h
shares_itself h v a b p q = same_Some b a (sym q ∙ p)

-- numbers that stay are shared with what shares them later
pub shares_later : (a b c : GraphInside) → KeepsNumbers a b → SharesNumbers b c → SharesNumbers a c
shares_later a b c k s v x y p q = s v x y (k v x p) q

pub back_itself : (parts : Parts) → IsSteady parts.graph parts.standing.items → AreBack parts parts
back_itself parts steady = record {
  steady = steady;
  rows = refl;
  links = λ v. refl;
  numbers = shares_itself parts.graph;
  lean = λ rest l. l;
  standing = kept_itself parts.standing.items;
  sessions = same_sessions_itself parts.sessions;
}

pub stays_later : (parts : Parts) → AreLaterParts parts parts
stays_later parts = record {
  waits = λ rest w. w;
  lean = λ rest l. l;
  searches = searched_itself parts.standing.items;
  sessions = same_sessions_itself parts.sessions;
}

-- ---- one after the other

pub later_twice : (a b c : Parts) → AreLaterParts a b → AreLaterParts b c → AreLaterParts a c
later_twice a b c s t = record {
  waits = λ rest w. t.waits rest (s.waits rest w);
  lean = λ rest l. t.lean rest (s.lean rest l);
  searches = searched_twice a.standing.items b.standing.items c.standing.items s.searches t.searches;
  sessions = same_twice a.sessions b.sessions c.sessions s.sessions t.sessions;
}

-- ---- what is back is what it was

pub back_state : (ttl moment : ℕ) (old new : Parts) → AreBack old new → state_at ttl moment new ≡ state_at ttl moment old
back_state ttl moment old new b =
    ap (λ (n : ℕ). record (state_at ttl moment new) { counter = n }) b.sessions.counter
    ∙ ap (λ rows. record (state_at ttl moment new) { counter = old.sessions.counter; graph = rows }) b.rows
    ∙ ap (λ (live : List Session). record
    (state_at ttl moment new) { counter = old.sessions.counter; graph = rows_now old.graph; sessions = live }) b.sessions.live
    ∙ ap (λ (xs : List machine.Standing). record (state_at ttl moment old) { standing = xs })
    (at_each_map standing_of (λ _. StaysRelated KeepsSame) shown_kept old.standing.items new.standing.items b.standing)

pub keeps_there : SameLinks → (old new : GraphInside) → IsSeen old → IsSeen new → rows_now new ≡ rows_now old
    → ((v : ℕ) → links_now new v ≡ links_now old v) → SharesNumbers old new → KeepsNumbered old new
keeps_there law old new was is rows links numbers sub here kept =
    law (seen_now old) (seen_now new) sub was is rows links numbers here kept

-- all that stand keep what the graph has, where they kept it and hold their starts
pub all_there : (old new : GraphInside) → KeepsNumbered old new → (xs : List Standing)
    → AllByRecursion (λ x. key_at new.names x.subscription.region.start ≡ Some x.subscription.search.start) xs
    → AllByRecursion (λ x. IsUpToDate (seen_now old) x.subscription) xs → AllByRecursion (λ x. IsUpToDate (seen_now new) x.subscription)
    xs
all_there old new k [] n h = tt
all_there old new k (x ∷ xs) n h = (k x.subscription n.0 h.0, all_there old new k xs n.1 h.1)

-- kept, and then only room changed
pub kept_room : (a b c : Parts) → AreKept a b → c.graph ≡ b.graph → c.standing.items ≡ b.standing.items
    → HasSameSessions b.sessions c.sessions
    → AreKept a c
kept_room a b c k graph standing sessions = record {
  back = record {
    steady = rw (graph, standing) k.back.steady;
    rows = rw graph k.back.rows;
    links = rw graph k.back.links;
    numbers = rw graph k.back.numbers;
    lean = rw graph k.back.lean;
    standing = rw standing k.back.standing;
    sessions = same_twice a.sessions b.sessions c.sessions k.back.sessions sessions;
  };
  backs = rw graph k.backs;
}

pub later_in_room : (a b c : Parts) → AreLaterParts a b → c.graph ≡ b.graph → c.standing.items ≡ b.standing.items
    → HasSameSessions b.sessions c.sessions
    → AreLaterParts a c
later_in_room a b c k graph standing sessions = record {
  waits = rw graph k.waits;
  lean = rw graph k.lean;
  searches = rw standing k.searches;
  sessions = same_twice a.sessions b.sessions c.sessions k.sessions sessions;
}

-- parts of which only room changed, and then are kept
pub room_kept : (a b c : Parts) → b.graph ≡ a.graph → b.standing.items ≡ a.standing.items → HasSameSessions a.sessions b.sessions
    → AreKept b c
    → AreKept a c
room_kept a b c graph standing sessions k = record {
  back = record {
    steady = k.back.steady;
    rows = subst (λ h. rows_now c.graph ≡ rows_now h) graph k.back.rows;
    links = subst (λ h. (v : ℕ) → links_now c.graph v ≡ links_now h v) graph k.back.links;
    numbers = subst (λ h. SharesNumbers h c.graph) graph k.back.numbers;
    lean = subst (λ h. StaysLean h c.graph) graph k.back.lean;
    standing = subst (λ xs. AtEach (λ _. StaysRelated KeepsSame) xs c.standing.items) standing k.back.standing;
    sessions = same_twice a.sessions b.sessions c.sessions sessions k.back.sessions;
  };
  backs = subst (λ h. KeepsBacks h c.graph) graph k.backs;
}

-- ---- parts at the start

first_ordered : (live : List Session) → AreOrdered live []
unfolding IsStrictlySortedBy
first_ordered live = record { rising = tt; live = tt; few = λ n. omega arith }

-- nothing is stored, no session lives and no subscription stands
pub first_parts : (parts : Parts) → IsStill parts.graph → rows_now parts.graph ≡ [] → ((a : Identifier) → IsOwn parts.graph a 0)
    → parts.sessions.live ≡ [] → parts.standing.items ≡ [] → AreParts parts
first_parts parts still rows own sessions standing = record {
  steady = record {
    still = still;
    whole = rw rows tt;
    own = λ a. rw standing (own a);
    numbered = rw standing tt;
  };
  ordered = rw standing (first_ordered parts.sessions.live);
  kept = rw standing tt;
  within = rw sessions tt;
}
