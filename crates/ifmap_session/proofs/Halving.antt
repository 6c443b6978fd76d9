-- Where a search by halving ends, in lists that rise strictly by a key.
use Rattle.std.proofs.Common.{◌≡◌, ℕ, Bool, List, length, Result, Ok, Err, Ordering}
use Rattle.std.specs.Cmp.{IsTotalOrder}
use Rattle.std.specs.List.Sorted.{IsStrictlySortedBy, IsBinarySearchResult, IsSearchInRange}
use Rattle.std.specs.Ordering.{is_eq, on}
use Rattle.ifmap_lemmas.specs.Inserted.{gap_finds_none, others, the_one}
use Rattle.ifmap_session.specs.Places.{IsPlaceOf}

module _ (X K : Type 0) (key : X → K) (C : K → K → Ordering) (o : IsTotalOrder C) (E : K → K → Bool) (same : (x y : K)
    → E x y ≡ is_eq (C x y)) where
  pub search_gives_place : (xs : List X) (k : K) (r : Result ℕ ℕ) → IsStrictlySortedBy (on key C) xs → IsSearchInRange r (length xs)
      → IsBinarySearchResult (λ y. C (key y) k) xs r → IsPlaceOf (λ y. E (key y) k) xs r
  search_gives_place xs k (Ok i) up within is =
      (within, the_one X K key C o E same xs i k up within is, others X K key C o E same xs i k up within is)
  search_gives_place xs k (Err i) up within is = (within, gap_finds_none X K key C o E same xs i k up is)
