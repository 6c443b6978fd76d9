-- Marks that are taken away level by level, where what held them is gone.
use Rattle.std.specs.Prelude.{◌≡◌, ◌≢◌, ℕ, suc, ◌+◌, ◌<◌, ◌≤◌, ◌++◌, ◌∷◌, [], Bool, false, Option, Some, None, List, Contains, All, IsSome, sum_by, nat_eq, ◌⊎◌}
use Rattle.std.specs.List.{IsDistinct}
use Rattle.ifmap_region.specs.declared.flips.Flip.{Flip}
use Rattle.ifmap_region.specs.Flips.{WithRemoved}
use Rattle.ifmap_region.specs.Links.{IsSymmetric}
use Rattle.ifmap_region.specs.Near.{NearOneWay}
use Rattle.ifmap_region.specs.Marks.{row_of, mark_over}
use Rattle.ifmap_region.specs.Spreading.{queue_at}
use Rattle.ifmap_region.specs.Walks.{Walk, AreDepths, Expands}

-- a number without a row got one with the mark of a level
pub record GetsMarkedRow (level v : ℕ) (rows rows' : List (ℕ × Option ℕ)) : Type 0 where
  pub bare : row_of rows v ≡ None
  pub here : row_of rows' v ≡ Some (Some level)
  pub others : (q : ℕ) → q ≢ v → row_of rows' q ≡ row_of rows q

-- a number that has no row gets one with the mark of the level, and comes into the queue
abbrev pub Awaits : ℕ → ℕ → List (ℕ × Option ℕ) → List (ℕ × Option ℕ) → List ℕ → List ℕ → Type 0
Awaits level v rows rows' queue queue' =
    (IsSome (row_of rows v) × (rows' ≡ rows) × (queue' ≡ queue))
    ⊎ (GetsMarkedRow level v rows rows' × (queue' ≡ queue ++ v ∷ []))

-- a neighbour that is nearer by one, and not terminal, has its mark
abbrev pub HasNearerMark : (ℕ → ℕ → Type 0) → (ℕ → Bool) → (ℕ → Option ℕ) → ℕ → ℕ → Type 0
HasNearerMark links terminal mark v k = (u : ℕ) × (d : ℕ) × (k ≡ suc d) × links u v × (terminal u ≡ false) × (mark u ≡ Some
    d)

-- what the rows say while marks are taken away: a number with a row waits in the queue of its level, or was looked at;
-- its row has its mark or none
pub record IsLosing (old mid : ℕ → ℕ → Type 0) (terminal : ℕ → Bool) (start : ℕ) (IsNear : ℕ → Type 0) (first : ℕ
    → Option ℕ) (rows : List (ℕ × Option ℕ)) (seeds queued : ℕ → ℕ → Type 0) (level : ℕ) : Type 0 where
  pub entered : (k v : ℕ) → seeds k v → (first v ≡ Some k) × (0 < k) × IsNear v
  pub in_queue : (k v : ℕ) → queued k v → row_of rows v ≡ Some (Some k)
  pub rowed : (v : ℕ) (r : Option ℕ) → row_of rows v ≡ Some r → (k : ℕ) × (first v ≡ Some k) × (0 < k) × IsNear v × ((r
      ≡ None) ⊎ (r ≡ Some k))
  pub held : (v k : ℕ) → row_of rows v ≡ Some (Some k)
      → queued k v ⊎ ((k ≤ level) × HasNearerMark mid terminal (mark_over rows first) v k)
  pub lost : (v k : ℕ) → row_of rows v ≡ Some None → first v ≡ Some k → ¬ Walk mid terminal start k v
  pub firm : (v u d : ℕ) → first v ≡ Some (suc d) → row_of rows v ≡ None → old u v → terminal u ≡ false
      → first u ≡ Some d
      → seeds (suc d) v ⊎ (mid u v × (mark_over rows first u ≡ Some d))

-- these numbers lost their marks
pub record AreGone (rows : List (ℕ × Option ℕ)) (gone : List ℕ) : Type 0 where
  pub all : (v : ℕ) → row_of rows v ≡ Some None → Contains gone v
  pub only : (v : ℕ) → Contains gone v → row_of rows v ≡ Some None
  pub distinct : IsDistinct nat_eq gone

-- the steps are charged to what has a row, and once more to what is gone
pub record IsLookedAt (count : ℕ → ℕ) (rows : List (ℕ × Option ℕ)) (gone : List ℕ) (before after : ℕ) : Type 0 where
  pub numbers : List ℕ
  pub distinct : IsDistinct nat_eq numbers
  pub among : All (λ v. IsSome (row_of rows v)) numbers
  pub all : (v : ℕ) → IsSome (row_of rows v) → Contains numbers v
  pub bound : after ≤ before + (sum_by count numbers + sum_by count gone)

-- seeds for numbers that are gone: a level for one that has an expanding neighbour, which is above the neighbour's
-- mark by one, and not above that of another
pub record Reseeds (links : ℕ → ℕ → Type 0) (terminal : ℕ → Bool) (top : ℕ) (mark : ℕ
    → Option ℕ) (gone : List ℕ) (seeds : List (ℕ × ℕ)) : Type 0 where
  pub only : (k v : ℕ) → Contains seeds (k, v) → Contains gone v × ((u : ℕ) × (d : ℕ) × links v u × Expands terminal
      top mark u d × (k ≡ suc d))
  pub each : (v u d : ℕ) → Contains gone v → links v u → Expands terminal top mark u d
      → (k : ℕ) × (k ≤ suc d) × Contains seeds (k, v)

-- the marks are the depths over the links with the removed ones
pub record IsBeforeCut (links : ℕ → ℕ → Type 0) (terminal : ℕ → Bool) (flips : List Flip) (start top : ℕ) (first : ℕ
    → Option ℕ) : Type 0 where
  pub symmetric : IsSymmetric links
  pub depths : AreDepths (WithRemoved links flips) terminal start top first

-- the rows, the numbers that are gone, the queues of a level and of the one that follows, in which no number stands
-- twice, and the steps agree while removed links are cut; what is in a queue is charged in advance
pub record IsCutting (links : ℕ → ℕ → Type 0) (terminal : ℕ → Bool) (count : ℕ
    → ℕ) (flips : List Flip) (start top : ℕ) (first : ℕ → Option ℕ)
    (rows : List (ℕ × Option ℕ)) (gone : List ℕ) (seeds : List (ℕ × ℕ)) (level : ℕ) (now next : List ℕ) (before after
    : ℕ) : Type 0 where
  pub losing : IsLosing (WithRemoved links flips) links terminal start (NearOneWay flips false (WithRemoved links
      flips) links terminal start top) first rows (λ k v. Contains seeds (k, v)) (queue_at level now next) level
  pub are_gone : AreGone rows gone
  pub once_now : IsDistinct nat_eq now
  pub once_next : IsDistinct nat_eq next
  pub charged : IsLookedAt count rows gone before (after + sum_by count now + sum_by count next)
