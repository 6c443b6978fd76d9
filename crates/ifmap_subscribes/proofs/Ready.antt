-- What stays ready where identifiers are only held.
-- First: `OnlyHolds` of one state after another, and what is to be told then. Then: subscriptions keep what the graph has, by the law
-- that views with the same links are kept alike (`SameLinks`). Then: parts stay ready. Last: few hold one identifier.
use Rattle.std.proofs.Common.{◌≡◌, sym, ◌∙◌, ap, subst, ℕ, ◌*◌, ◌≤◌, Bool, List, [], ◌∷◌, ◌++◌, length, map, arith, append_assoc, length-append, option_to_list}
use Rattle.std.proofs.lemmas.List.{length-map}
use Rattle.std.specs.List.{AllByRecursion}
use Rattle.ifmap_lemmas.specs.Mapped.{fewer_joined}
use Rattle.ifmap_lemmas.specs.Owners.{few_each}
use Rattle.ifmap_lemmas.specs.Places.{all_got}
use Rattle.ifmap_changes.specs.ifmap_machine.State as machine
use Rattle.ifmap_changes.specs.Between.{AreOrdered, Asking, IsSoundSoFar, IsSteady, SharesNumbers, sessions_left, seen_now, starts_of, HasStartNumber, IsSeen}
use Rattle.ifmap_changes.specs.declared.parts.Parts.{Parts}
use Rattle.ifmap_changes.specs.ifmap_delta.SeenViews.{IsUpToDate, SameLinks}
use Rattle.ifmap_changes.specs.ifmap_graph.Inside.{GraphInside}
use Rattle.ifmap_changes.specs.ifmap_graph.Seen.{HasFewOwn, KeepsNumbers, links_now, rows_now}
use Rattle.ifmap_lemmas.specs.Members.{all_both, both_all, map_of_all}
use Rattle.ifmap_changes.specs.ifmap_machine.Subscribing.{Told}
use Rattle.ifmap_changes.specs.ifmap_session.Sessions.{IsLive, Session, SessionTable, session_with_serial}
use Rattle.ifmap_changes.specs.ifmap_standing.Standing.{standing_of}
use Rattle.ifmap_changes.specs.ifmap_standing.declared.standing.Standing.{Standing}
use Rattle.ifmap_subscribes.proofs.Renamed.{begun_more}
use Rattle.ifmap_subscribes.specs.Readying.{AreReadied, CanReady, CanStand, GraphHolds, IsGivenUp, OnlyHolds, most_ops, queue_where, told_in_scene}
use Rattle.ifmap_subscribes.specs.Renamings.{IsOfSession, KeepsNumbered, starts_by}
use Rattle.ifmap_subscribes.specs.declared.readying.Readying.{Readying}
use Rattle.ifmap_subscribes.specs.declared.readying.Occasion.{Occasion}
use Rattle.ifmap_subscribes.specs.declared.renamings.Renaming.{Renaming}
use Rattle.ifmap_changes.specs.ifmap_tellings.Tellings.{AllKept, kept_items, tell_by}
use Rattle.ifmap_changes.specs.ifmap_tellings.declared.tellings.Pending.{Pending}
use Rattle.ifmap_changes.specs.StartLaws.{starts_few, shares_kept}

-- one state after another
pub holds_on : (a b c : Parts) → OnlyHolds a b → OnlyHolds b c → OnlyHolds a c
holds_on a b c h k = record {
  rows = k.rows ∙ h.rows;
  links = λ v. k.links v ∙ h.links v;
  numbers = λ v x e. k.numbers v x (h.numbers v x e);
  backs = λ u rows links w. k.backs u rows links (h.backs u rows links w);
  waits = λ rest w. k.waits rest (h.waits rest w);
  lean = λ rest l. k.lean rest (h.lean rest l);
  sessions = k.sessions ∙ h.sessions;
  standing = k.standing ∙ h.standing;
}

-- what is to be told is the same
abbrev told_from : Occasion → SessionTable → List Standing → Told
told_from scene sessions standing = record {
  queue = queue_where (session_with_serial scene.serial
      (map (tell_by scene.pending.now.tellings) (sessions_left scene.asking.now sessions)));
  standing = map standing_of (kept_items scene.pending.now.gone.items standing);
}

pub told_same : (scene : Occasion) (old new : Parts) → new.sessions ≡ old.sessions → new.standing ≡ old.standing
    → told_in_scene scene new ≡ told_in_scene scene old
told_same scene old new s v =
    ap (λ t. told_from scene t new.standing.items) s ∙ ap (λ w. told_from scene old.sessions w.items) v

pub can_on : (scene : Occasion) (old new : Parts) (r : Readying) → OnlyHolds old new → IsSoundSoFar scene.asking.now new scene.pending.now
    → IsLive scene.serial (sessions_left scene.asking.now old.sessions) → AreReadied scene.serial (told_in_scene scene old) new r
    → CanReady scene new r
can_on scene old new r h ready live readied = record {
  ready = ready;
  live = subst (λ t. IsLive scene.serial (sessions_left scene.asking.now t)) (sym h.sessions) live;
  readied = subst (λ t. AreReadied scene.serial t new r) (sym (told_same scene old new h.sessions h.standing)) readied;
}

pub numbered_on : (old new : GraphInside) → KeepsNumbers old new → (xs : List Standing) → AllByRecursion (HasStartNumber old) xs
    → AllByRecursion (HasStartNumber new) xs
numbered_on old new k [] h = tt
numbered_on old new k (x ∷ xs) h =
    (k x.subscription.region.start x.subscription.search.start h.0, numbered_on old new k xs h.1)

module _ (law : SameLinks) (old new : GraphInside) (seen_old : IsSeen old) (seen_new : IsSeen new) (rows : rows_now new ≡ rows_now old)
    (links : (v : ℕ) → links_now new v ≡ links_now old v) (numbers : SharesNumbers old new) where
  kept_one : (x : Standing) → HasStartNumber new x → IsUpToDate (seen_now old) x.subscription → IsUpToDate (seen_now new) x.subscription
  kept_one x e k = law (seen_now old) (seen_now new) x.subscription seen_old seen_new rows links numbers e k

  pub kept_all : (xs : List Standing) → AllByRecursion (HasStartNumber new) xs → AllByRecursion
      (λ x. IsUpToDate (seen_now old) x.subscription) xs
      → AllByRecursion (λ x. IsUpToDate (seen_now new) x.subscription) xs
  kept_all [] n h = tt
  kept_all (x ∷ xs) n h = (kept_one x n.0 h.0, kept_all xs n.1 h.1)

  pub kept_each : (gone : List Bool) (xs : List Standing) → AllByRecursion (HasStartNumber new) xs
      → AllKept (λ x. IsUpToDate (seen_now old) x.subscription) gone xs → AllKept (λ x. IsUpToDate (seen_now new) x.subscription) gone xs
  kept_each gone xs n k i x at here = kept_one x (all_got (HasStartNumber new) xs i x n at) (k i x at here)

-- parts stay ready
ready_of : (a : Asking) (old : Parts) (pending : Pending) (g : GraphInside) → IsSoundSoFar a old pending
    → AllKept (λ x. IsUpToDate (seen_now g) x.subscription) pending.gone.items old.standing.items
    → IsSoundSoFar a (record old { graph = g }) pending
ready_of a old pending g r k = record {
  ended = r.ended;
  ordered = r.ordered;
  flags = r.flags;
  kept = k;
  live = r.live;
  queues = r.queues;
  within = r.within;
  can_tell = r.can_tell;
  sized = r.sized;
  alone = r.alone;
}

-- what is to stand can still, in a graph in which more is held, and one renaming more can
module _ (law : SameLinks) (serial : ℕ) (old : Parts) (g : GraphInside) (made : List Renaming) (seen_old : IsSeen old.graph)
    (seen_new : IsSeen g) (h : GraphHolds old.graph g) (c : CanStand serial old made) where
  numbered_all : AllByRecursion (HasStartNumber g) (old.standing.items ++ starts_by made)
  numbered_all = numbered_on old.graph g h.numbers (old.standing.items ++ starts_by made) c.steady.numbered

  kept_begun : AllByRecursion (λ x. IsUpToDate (seen_now g) x.subscription) (starts_by made)
  kept_begun =
      kept_all law old.graph g seen_old seen_new h.rows h.links (shares_kept old.graph g h.numbers) (starts_by made)
      (all_both (HasStartNumber g) old.standing.items (starts_by made) numbered_all).1 c.kept

  pub stand_still : IsSteady g (old.standing.items ++ starts_by made) → CanStand serial (record old { graph = g }) made
  stand_still steady = record { session = c.session; steady = steady; kept = kept_begun }

  pub stand_more : (r : Renaming) → IsOfSession serial r
      → AllByRecursion (λ x. IsUpToDate (seen_now g) x.subscription) (option_to_list r.standing)
      → IsSteady g ((old.standing.items ++ starts_by made) ++ option_to_list r.standing)
      → CanStand serial (record old { graph = g }) (made ++ r ∷ [])
  stand_more r s k steady =
      let joined = append_assoc old.standing.items (starts_by made) (option_to_list r.standing)
      ∙ ap (λ xs. old.standing.items ++ xs) (sym (begun_more made r)) in
      record {
        session = both_all (IsOfSession serial) made (r ∷ []) c.session (s, tt);
        steady = subst (λ xs. IsSteady g xs) joined steady;
        kept = subst (λ xs. AllByRecursion (λ (x : Standing). IsUpToDate (seen_now g) x.subscription) xs) (sym (begun_more made r))
            (both_all (λ x. IsUpToDate (seen_now g) x.subscription) (starts_by made) (option_to_list r.standing) kept_begun k);
      }

  pub stays_ready : (a : Asking) (pending : Pending) → IsSoundSoFar a old pending → IsSoundSoFar a (record old { graph = g }) pending
  stays_ready a pending r =
      ready_of a old pending g r (kept_each law old.graph g seen_old seen_new h.rows h.links (shares_kept old.graph g h.numbers)
      pending.gone.items old.standing.items (all_both (HasStartNumber g) old.standing.items (starts_by made) numbered_all).0 r.kept)

-- where starts are let go of, what is numbered still is kept still
pub ready_after : (a : Asking) (old : Parts) (pending : Pending) (g : GraphInside) → IsSoundSoFar a old pending → KeepsNumbered old.graph g
    → AllByRecursion (HasStartNumber g) old.standing.items → IsSoundSoFar a (record old { graph = g }) pending
ready_after a old pending g r k n =
    ready_of a old pending g r (λ i x at here. k x.subscription (all_got (HasStartNumber g) old.standing.items i x n at)
    (r.kept i x at here))

pub few_own : (h : GraphInside) (live : List Session) (standing : List Standing) (made : List Renaming) → AreOrdered live standing
    → length live ≤ 10000 → length made ≤ most_ops → IsSteady h (standing ++ starts_by made) → HasFewOwn h
few_own h live standing made ordered few most steady = λ a.
    let owned = map_of_all (λ (x : machine.Standing). IsLive x.serial live) standing_of standing ordered.live in
    let stand : length (map standing_of standing) ≤ length live * 1000
    = few_each (λ (x : machine.Standing). x.serial) (λ (s : Session). s.serial) 1000 live (map standing_of standing) owned
    ordered.few in
    let shown_length = length-map standing standing_of in
    let begun = fewer_joined (λ (r : Renaming). r.standing) made in
    let both = length-append standing (starts_by made) in
    let starts = starts_few a (standing ++ starts_by made) in
    (starts_of a (standing ++ starts_by made), steady.own a, omega (arith, few, most, stand, shown_length, begun, both, starts))

-- what was made ready is given up
pub given_after : (a b c : Parts) → OnlyHolds a b → IsGivenUp b c → IsGivenUp a c
given_after a b c h k = record {
  steady = k.steady;
  rows = k.rows ∙ h.rows;
  links = λ v. k.links v ∙ h.links v;
  numbers = λ v x y e f. k.numbers v x y (h.numbers v x e) f;
  backs = λ u rows links w. k.backs u rows links (h.backs u rows links w);
  waits = λ rest w. k.waits rest (h.waits rest w);
  lean = λ rest l. k.lean rest (h.lean rest l);
  sessions = k.sessions ∙ h.sessions;
  standing = k.standing ∙ h.standing;
}
