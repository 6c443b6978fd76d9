-- Drafts that take the place of lists, and the lists that were.
use Rattle.std.specs.Prelude.{◌≡◌, ◌⊎◌, ℕ, ◌<◌, List, [], ◌∷◌, set, length, None, IsSome, slice_index_or}
use Rattle.ifmap_graph.specs.Sides.{Sides, list_next}

module _ {T : Type 0} where
  abbrev pub no_list : Sides T
  no_list = record { now = []; draft = None }

  -- the lists at a place
  abbrev pub sides_at : List (Sides T) → ℕ → Sides T
  sides_at lists at = slice_index_or lists at no_list

  -- the draft is the list
  abbrev pub accepted_sides : Sides T → Sides T
  accepted_sides s = record { now = list_next s; draft = None }

  -- a list in place of the one there
  abbrev pub restored_sides : Sides T → List T → Sides T
  restored_sides s list = record s { now = list }

  -- the drafts at these places are the lists, one after the other
  abbrev pub accept_each : List (ℕ × List T) → List (Sides T) → List (Sides T)
  accept_each [] lists = lists
  accept_each (w ∷ ws) lists = accept_each ws (set lists w.0 (accepted_sides (sides_at lists w.0)))

  -- the places with the lists that were there
  abbrev pub backs : List (ℕ × List T) → List (Sides T) → List (ℕ × List T)
  backs [] lists = []
  backs (w ∷ ws) lists = (w.0, (sides_at lists w.0).now) ∷ backs ws (set lists w.0 (accepted_sides (sides_at lists w.0)))

  -- these lists stand at their places again
  abbrev pub restore_each : List (ℕ × List T) → List (Sides T) → List (Sides T)
  restore_each [] lists = lists
  restore_each (w ∷ ws) lists = restore_each ws (set lists w.0 (restored_sides (sides_at lists w.0) w.1))

  -- drafts stand at these places, each of which is named once
  abbrev pub AreDrafted : List (ℕ × List T) → List (Sides T) → Type 0
  AreDrafted [] lists = Unit {0}
  AreDrafted (w ∷ ws) lists = (w.0 < length lists) × IsSome (sides_at lists w.0).draft × AreDrafted ws
      (set lists w.0 (accepted_sides (sides_at lists w.0)))

  abbrev pub AreWithin : List (ℕ × List T) → ℕ → Type 0
  AreWithin [] n = Unit {0}
  AreWithin (w ∷ ws) n = (w.0 < n) × AreWithin ws n

  -- the place that a way at an index names is one of the lists', and has a draft
  abbrev pub IsWithinAt : List (ℕ × List T) → ℕ → List (Sides T) → Type 0
  IsWithinAt ways i lists = (w : ℕ × List T) → (slice_index_or ways i w).0 < length lists

  abbrev pub IsDraftedAt : List (ℕ × List T) → ℕ → List (Sides T) → Type 0
  IsDraftedAt ways i lists = (w : ℕ × List T) → IsSome (sides_at lists (slice_index_or ways i w).0).draft

  -- its draft comes to be the list
  abbrev pub AcceptsAt : List (ℕ × List T) → ℕ → List (Sides T) → List (Sides T) → Type 0
  AcceptsAt ways i old new =
      (w : ℕ × List T) → new ≡ set old (slice_index_or ways i w).0 (accepted_sides (sides_at old (slice_index_or ways i w).0))

  -- the list of the way comes to be the list
  abbrev pub RestoresAt : List (ℕ × List T) → ℕ → List (Sides T) → List (Sides T) → Type 0
  RestoresAt ways i old new =
      (w : ℕ × List T)
      → new ≡ set old (slice_index_or ways i w).0 (restored_sides (sides_at old (slice_index_or ways i w).0) (slice_index_or ways i w).1)

  -- the list that was there comes to stand in the way
  abbrev pub KeepsListAt : List (Sides T) → ℕ → List (ℕ × List T) → List (ℕ × List T) → Type 0
  KeepsListAt lists i old new =
      (w : ℕ × List T) → new ≡ set old i ((slice_index_or old i w).0, (sides_at lists (slice_index_or old i w).0).now)

  -- the place is one of these
  abbrev pub IsNamed : List (ℕ × List T) → ℕ → Type 0
  IsNamed [] v = ⊥
  IsNamed (w ∷ ws) v = (w.0 ≡ v) ⊎ IsNamed ws v

  -- drafts stand at these places alone
  abbrev pub NoOthers : List (ℕ × List T) → List (Sides T) → Type 0
  NoOthers ws lists = (v : ℕ) → ((sides_at lists v).draft ≡ None) ⊎ IsNamed ws v
