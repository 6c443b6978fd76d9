-- Where subscriptions start: they are few enough for the graph to hold each start (`few_starts`); starts have their numbers still where
-- numbers only come (`numbered_more`), and are held for subscriptions that keep their searches (`numbered_beside`, `own_beside`).
use Rattle.std.proofs.Common.{◌≤◌, Some, List, length, map, ap, ◌∙◌, sym, subst, arith}
use Rattle.std.proofs.lemmas.List.{length-map}
use Rattle.std.specs.List.{AllByRecursion}
use Rattle.ifmap_lemmas.specs.Filters.{all_weaker}
use Rattle.ifmap_lemmas.specs.Owners.{few_each}
use Rattle.ifmap_tellings.specs.ifmap_delta.SameSearches.{HasSameSearch}
use Rattle.ifmap_ident.specs.declared.identifiers.Identifier.{Identifier}
use Rattle.ifmap_tellings.specs.ifmap_machine.State as machine
use Rattle.ifmap_tellings.specs.ifmap_machine.Subscribing.{most_names}
use Rattle.ifmap_graph.specs.ifmap_pool.Holdings.{key_at}
use Rattle.ifmap_tellings.specs.ifmap_session.Sessions.{IsLive, Session, most_sessions}
use Rattle.ifmap_tellings.specs.ifmap_standing.declared.standing.Standing.{Standing}
use Rattle.ifmap_tellings.specs.ifmap_standing.Kept.{AtEach, StaysRelated}
use Rattle.ifmap_tellings.specs.ifmap_standing.Standing.{standing_of}
use Rattle.ifmap_graph.specs.Inside.{GraphInside, IsOwn}
use Rattle.ifmap_graph.specs.Seen.{HasFewOwn, KeepsNumbers}
use Rattle.ifmap_changes.specs.Between.{AreOrdered, HasStartNumber, IsSteady, starts_of}
use Rattle.ifmap_changes.proofs.EachPlace.{same_all}
use Rattle.ifmap_changes.proofs.Steady.{same_starts}
use Rattle.ifmap_changes.proofs.Told.{all_shown}
use Rattle.ifmap_changes.specs.StartLaws.{starts_few}

-- ---- starts

pub few_starts : (live : List Session) (standing : List Standing) → length live ≤ most_sessions → AreOrdered live standing
    → (h : GraphInside) → IsSteady h standing → HasFewOwn h
few_starts live standing few o h steady a =
    let long = few_each (λ (y : machine.Standing). y.serial) (λ (s : Session). s.serial) most_names live (map standing_of standing)
    (all_shown (λ y. IsLive y.serial live) standing o.live) o.few
    in (starts_of a standing, steady.own a, omega (arith, few, long, starts_few a standing, length-map standing standing_of))

-- the numbers of starts stay where each has the one that it had
abbrev pub AreNumbered : GraphInside → List Standing → Type 0
AreNumbered h standing = AllByRecursion (HasStartNumber h) standing

pub numbered_more : (old new : GraphInside) (standing : List Standing) → KeepsNumbers old new → AreNumbered old standing
    → AreNumbered new standing
numbered_more old new standing keeps numbered =
    all_weaker (HasStartNumber old) (HasStartNumber new)
    (λ x e. keeps x.subscription.region.start x.subscription.search.start e) standing numbered

pub numbered_beside : (h : GraphInside) (old new : List Standing) → AtEach (λ _. StaysRelated HasSameSearch) old new → AreNumbered h old
    → AreNumbered h new
numbered_beside h old new same numbered =
    same_all (HasStartNumber h) (HasStartNumber h) (λ _. StaysRelated HasSameSearch)
    (λ i x y s e. ap (key_at h.names) s.subscription.start ∙ e ∙ ap (λ t. Some t.start) (sym s.subscription.search)) old new same numbered

pub own_beside : (h : GraphInside) (old new : List Standing) → AtEach (λ _. StaysRelated HasSameSearch) old new
    → ((a : Identifier) → IsOwn h a (starts_of a old)) → (a : Identifier) → IsOwn h a (starts_of a new)
own_beside h old new same own a = subst (IsOwn h a) (sym (same_starts a old new same)) (own a)
