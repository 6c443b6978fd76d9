-- Lists in a strict order: one member more, and where it goes.
use Rattle.std.specs.Prelude.{◌≡◌, ◌<◌, ◌≤◌, ℕ, false, List, ◌∷◌, ◌++◌, length, set, slice_index_or, Result, MatchResult}
use Rattle.std.specs.List.{filter, insert, list_any}
use Rattle.std.specs.Ordering.{eq_by_cmp, is_gt, is_lt}
use Rattle.std.specs.declared.cmp.Ordering.{Ordering}
use Rattle.std.specs.declared.cmp.Ordering.TheVariants.{Equal}

-- one member more, between those that are less and those that are greater; it stands for one that is equal in the order
abbrev pub put : {X : Type 0} → (X → X → Ordering) → X → List X → List X
put order x xs = filter (λ y. is_lt (order y x)) xs ++ x ∷ filter (λ y. is_gt (order y x)) xs

-- one that is equal in the order stands there, and what is put in goes over it
abbrev pub IsEqualAt : {X : Type 0} → (X → X → Ordering) → X → List X → ℕ → Type 0
IsEqualAt {X} order a xs i =
    (i < length xs) × ((d : X) → order (slice_index_or xs i d) a ≡ Equal) × (set xs i a ≡ put order a xs)

-- at one that is equal in the order, or where it goes, and then none is equal
abbrev pub IsSpot : {X : Type 0} → (X → X → Ordering) → X → List X → Result ℕ ℕ → Type 0
IsSpot order a xs spot =
    MatchResult spot (IsEqualAt order a xs)
    (λ i. (i ≤ length xs) × (insert xs i a ≡ put order a xs) × (list_any (λ x. eq_by_cmp order x a) xs ≡ false))
