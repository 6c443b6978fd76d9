-- A graph stays steady where numbers go and the holds of others stay: for subscriptions with the same searches.
use Rattle.std.proofs.Common.{◌≡◌, ◌+◌, ◌≤◌, Some, List, [], ◌∷◌, ◌++◌, append-nil, ap, ◌∙◌, sym, subst, arith}
use Rattle.std.specs.List.{AllByRecursion}
use Rattle.ifmap_changes.specs.Between.{HasStartNumber, IsSeen, IsSteady, starts_of}
use Rattle.ifmap_changes.proofs.EachPlace.{same_all, same_sum}
use Rattle.ifmap_changes.proofs.Numbers.{number_stays}
use Rattle.ifmap_tellings.specs.ifmap_delta.SameSearches.{HasSameSearch}
use Rattle.ifmap_graph.specs.Inside.{GraphInside, IsOwn}
use Rattle.ifmap_graph.specs.Seen.{BringsNoNumbers, IsStill, KeepsOwn, rows_now}
use Rattle.ifmap_ident.specs.declared.identifiers.Identifier.{Identifier}
use Rattle.ifmap_ident.specs.Identifiers.{identifier_order}
use Rattle.ifmap_lemmas.specs.Members.{all_both, both_all}
use Rattle.ifmap_lemmas.specs.Sums.{each_within_sum}
use Rattle.ifmap_graph.specs.ifmap_plans.Plans.{AreWhole}
use Rattle.ifmap_graph.specs.ifmap_pool.Holdings.{key_at, once}
use Rattle.ifmap_tellings.specs.ifmap_standing.declared.standing.Standing.{Standing}
use Rattle.ifmap_tellings.specs.ifmap_standing.Kept.{AtEach, StaysRelated}
use Rattle.ifmap_graph.specs.NumberLaws.{once_itself}
use Rattle.ifmap_changes.specs.StartLaws.{starts_at, starts_append}
use Rattle.ifmap_ident.specs.SameLaws.{BytesTellIdentifiers}

abbrev pub HaveSameSearches : List Standing → List Standing → Type 0
HaveSameSearches old new = AtEach (λ _. StaysRelated HasSameSearch) old new

-- subscriptions with the same searches start alike
pub same_starts : (a : Identifier) (old new : List Standing) → HaveSameSearches old new → starts_of a new ≡ starts_of a old
same_starts a old new s =
    same_sum (starts_at a) (λ _. StaysRelated HasSameSearch)
    (λ i x y t. ap (λ b. once identifier_order b a) (ap (λ z. z.start) t.subscription.search)) old new s

-- each that has the number of its start has it still
pub numbered_still : BytesTellIdentifiers → (old new : GraphInside) → IsSeen old → BringsNoNumbers old new → (all : List Standing)
    → AllByRecursion (HasStartNumber old) all → ((a : Identifier) → IsOwn new a (starts_of a all)) → AllByRecursion (HasStartNumber new) all
numbered_still tells old new seen fewer all numbered own = each all numbered (λ a. each_within_sum (starts_at a) all)
  where
    each : (xs : List Standing) → AllByRecursion (HasStartNumber old) xs
        → ((a : Identifier) → AllByRecursion (λ x. starts_at a x ≤ starts_of a all) xs) → AllByRecursion (HasStartNumber new) xs
    each [] h k = tt
    each (x ∷ xs) h k =
        let a : Identifier = x.subscription.search.start in
        let one = once_itself a in
        let some : 1 ≤ starts_of a all = omega (arith, one, (k a).0) in (
          number_stays tells old new seen fewer x.subscription.region.start a (starts_of a all) h.0 (own a) some,
          each xs h.1 (λ b. (k b).1),
        )

pub all_numbered : BytesTellIdentifiers → (old new : GraphInside) → IsSeen old → BringsNoNumbers old new → KeepsOwn old new
    → (all : List Standing) → IsSteady old all → AllByRecursion (HasStartNumber new) all
all_numbered tells old new seen fewer own all s =
    numbered_still tells old new seen fewer all s.numbered (λ a. own a (starts_of a all) (s.own a))

-- so the graph is steady for those that came in their places, beside others
pub steady_beside : BytesTellIdentifiers → (old new : GraphInside) → IsSeen old → IsStill new → AreWhole (rows_now new)
    → BringsNoNumbers old new → KeepsOwn old new → (xs ys more : List Standing) → HaveSameSearches xs ys
    → IsSteady old (xs ++ more) → IsSteady new (ys ++ more)
steady_beside tells old new seen still whole fewer own xs ys more same s =
    let numbered = all_both (HasStartNumber new) xs more (all_numbered tells old new seen fewer own (xs ++ more) s) in
    record {
      still = still;
      whole = whole;
      own = λ a. subst (λ n. IsOwn new a n)
          (starts_append a xs more ∙ ap (λ n. n + starts_of a more) (sym (same_starts a xs ys same)) ∙ sym (starts_append a ys more))
          (own a (starts_of a (xs ++ more)) (s.own a));
      numbered = both_all (HasStartNumber new) ys more (same_all (HasStartNumber new) (HasStartNumber new) (λ _. StaysRelated HasSameSearch)
          (λ i x y t n. moved x y t n) xs ys same numbered.0) numbered.1;
    }
  where
    moved : (x y : Standing) → StaysRelated HasSameSearch x y → HasStartNumber new x → HasStartNumber new y
    moved x y t n = ap (key_at new.names) t.subscription.start ∙ n ∙ ap (λ z. Some z.start) (sym t.subscription.search)

-- and without others
pub steady_after : BytesTellIdentifiers → (old new : GraphInside) → IsSeen old → IsStill new → AreWhole (rows_now new)
    → BringsNoNumbers old new → KeepsOwn old new → (xs ys : List Standing) → HaveSameSearches xs ys → IsSteady old xs → IsSteady new ys
steady_after tells old new seen still whole fewer own xs ys same s =
    subst (IsSteady new) (append-nil ys)
    (steady_beside tells old new seen still whole fewer own xs ys [] same (subst (IsSteady old) (sym (append-nil xs)) s))
