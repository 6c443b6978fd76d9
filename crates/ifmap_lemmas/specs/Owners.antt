-- How many members a list has, by the owners of each.
use Rattle.std.proofs.Common.{◌≡◌, ◌∙◌, ℕ, ◌*◌, ◌≤◌, ◌==◌, true, false, not, List, [], ◌∷◌, length, refl, arith}
use Rattle.std.specs.Prelude.{IsSome}
use Rattle.std.proofs.lemmas.Bool.{false≢true, not-true}
use Rattle.std.proofs.lemmas.List.Filters.{length-filter_both}
use Rattle.std.specs.List.{AllByRecursion, filter, find}
use Rattle.ifmap_lemmas.specs.Filters.{all_filter, filter_passes, filter_fewer}
use Rattle.ifmap_lemmas.specs.Tests.{equal_turned}

-- where each member has an owner, and each owner has so many at most, there are no more than so many for each owner
module _ {X S : Type 0} (key : X → ℕ) (id : S → ℕ) where
  abbrev Owned : List S → X → Type 0
  Owned owners x = IsSome (find (λ s. id s == key x) owners)

  owned_rest : (s : S) (owners : List S) (xs : List X) → AllByRecursion (λ x. not (key x == id s) ≡ true) xs
      → AllByRecursion (Owned (s ∷ owners)) xs
      → AllByRecursion (Owned owners) xs
  owned_rest s owners [] others h = tt
  owned_rest s owners (x ∷ xs) others h =
      let apart : (id s == key x) ≡ false = equal_turned (id s) (key x) ∙ not-true (key x == id s) others.0 in
      (rw apart at h.0, owned_rest s owners xs others.1 h.1)

  pub few_each : (k : ℕ) (owners : List S) (xs : List X) → AllByRecursion (Owned owners) xs
      → ((n : ℕ) → length (filter (λ x. key x == n) xs) ≤ k) → length xs ≤ length owners * k
  few_each k [] [] h few = omega arith
  few_each k [] (x ∷ xs) h few = absurd (false≢true h.0)
  few_each k (s ∷ owners) xs h few =
      let others = filter (λ x. not (key x == id s)) xs in
      let rest = few_each k owners others
      (owned_rest s owners others (filter_passes (λ x. not (key x == id s)) xs)
      (all_filter (Owned (s ∷ owners)) (λ x. not (key x == id s)) xs h))
      (λ n. let less = filter_fewer (λ x. key x == n) (λ x. not (key x == id s)) xs in omega (arith, less, few n)) in
      omega (arith, rest, few (id s), length-filter_both (λ x. key x == id s) (λ x. not (key x == id s)) (λ x. refl) xs)
