-- Ways back: how rows of a region change when patches are made room for, made, taken back and swept.
use Rattle.std.specs.Prelude.{◌≡◌, ℕ, ◌≤◌, Option, Some, None, List, map, is_some, is_none, IsSome, count_by, nat_eq, slice_get, ◌⊎◌}
use Rattle.std.specs.Map.{update}
use Rattle.indexmap.specs.IndexMap.{IndexMap, insert_entry, spare}
use Rattle.ifmap_region.specs.Marks.{row_of, mark_of, mark_over}

-- each number of the patch has a row
abbrev pub HasRoom : List (ℕ × Option ℕ) → List (ℕ × Option ℕ) → Type 0
HasRoom patch rows = (v : ℕ) → IsSome (row_of patch v) → IsSome (row_of rows v)

-- how many numbers of the patch have no row
abbrev pub missing_count : List (ℕ × Option ℕ) → List (ℕ × Option ℕ) → ℕ
missing_count rows patch = count_by (λ e. is_none (row_of rows e.0)) patch

-- as many more rows fit with no memory taken as numbers of the patch have none
abbrev pub HasSpare : {S : Type 0} → List (ℕ × Option ℕ) → IndexMap ℕ (Option ℕ) S → Type 0
HasSpare patch rows = missing_count rows.entries patch ≤ spare rows

-- numbers of the patch that had no row may have one without a mark; all other rows stay
abbrev pub OnlyRoom : List (ℕ × Option ℕ) → List (ℕ × Option ℕ) → List (ℕ × Option ℕ) → Type 0
OnlyRoom patch old new = (v : ℕ) → (row_of new v ≡ row_of old v) ⊎ ((row_of old v ≡ None) × (row_of new v ≡ Some
    None) × IsSome (row_of patch v))

-- the marks of the patch are made, where it has a number, and all rows stay rows
pub record Makes (patch old new : List (ℕ × Option ℕ)) : Type 0 where
  pub marks : (v : ℕ) → mark_of new v ≡ mark_over patch (mark_of old) v
  pub rows : (v : ℕ) → is_some (row_of new v) ≡ is_some (row_of old v)

-- the numbers of the patch, with the marks that they had
abbrev pub taken_from : (ℕ → Option ℕ) → List (ℕ × Option ℕ) → List (ℕ × Option ℕ)
taken_from mark patch = map (λ e. (e.0, mark e.0)) patch

-- the numbers of the patch have no row without a mark any more; all other rows stay
pub record Sweeps (patch old new : List (ℕ × Option ℕ)) : Type 0 where
  pub each : (v : ℕ) → (row_of new v ≡ row_of old v) ⊎ ((row_of old v ≡ Some None) × (row_of new v ≡ None) × IsSome
      (row_of patch v))
  pub out : (v : ℕ) → IsSome (row_of patch v) → row_of old v ≡ Some None → row_of new v ≡ None

-- the mark of the number at a place of the patch is exchanged with the one that the patch has there; past the patch's
-- end nothing changes
pub record Exchanges (i : ℕ) (old patch new back : List (ℕ × Option ℕ)) : Type 0 where
  pub at : (n : ℕ) (r : Option ℕ) → slice_get patch i ≡ Some (n, r)
      → ((q : ℕ) → row_of new q ≡ update nat_eq (row_of old) n (Some r) q) × (back ≡ insert_entry nat_eq patch n
      (mark_of old n))

-- what a change gave as its way back: the marks that its numbers had, where the marks afterwards are those before
-- with the patch made. Which rows stand without a mark does not matter
pub record IsWayBack (undo patch : List (ℕ × Option ℕ)) (before after : ℕ → Option ℕ) : Type 0 where
  pub taken : undo ≡ taken_from before patch
  pub made : (v : ℕ) → after v ≡ mark_over patch before v
