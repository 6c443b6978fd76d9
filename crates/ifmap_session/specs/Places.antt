-- Where searches by halving end.
use Rattle.std.specs.Prelude.{◌≡◌, ℕ, ◌≤◌, ◌<◌, Bool, List, find, length, not, None, Some, Result, MatchResult, slice_index_or}
use Rattle.std.specs.List.{filter, insert, remove}
use Rattle.std.specs.List.Sorted.{IsStrictlySortedBy}
use Rattle.ifmap_session.specs.declared.holders.Holder.{Holder}
use Rattle.ifmap_session.specs.Rows.{client_order}

-- where a search in a list ends: at the one element that passes, or nowhere
abbrev pub IsPlaceOf : {X : Type 0} → (X → Bool) → List X → Result ℕ ℕ → Type 0
IsPlaceOf {X} test xs result =
    MatchResult result
    (λ i. (i < length xs) × ((d : X) → find test xs ≡ Some (slice_index_or xs i d)) × (remove xs i ≡ filter (λ x. not (test x)) xs))
    (λ i. (i ≤ length xs) × (find test xs ≡ None))

-- a client that has no holder may have one at that place
abbrev pub IsPlaceFor : List ℕ → List Holder → ℕ → Type 0
IsPlaceFor client holders i = (serial : ℕ) → IsStrictlySortedBy client_order
    (insert holders i (record { client = client; serial = serial }))
