-- Marks that fall along links until they are the depths.
use Rattle.std.specs.Prelude.{◌≡◌, ◌≢◌, ℕ, suc, ◌+◌, ◌<◌, ◌≤◌, ◌++◌, ◌∷◌, [], Bool, Option, Some, List, Contains, ◌⊎◌}
use Rattle.ifmap_region.specs.Walks.{Walk, Expands}
use Rattle.ifmap_region.specs.Bounds.{IsWithin}
use Rattle.ifmap_region.specs.Marks.{mark_over}

-- a number has a mark that is at most d, or waits at a level that is
abbrev pub IsBound : (ℕ → Option ℕ) → (ℕ → ℕ → Type 0) → ℕ → ℕ → Type 0
IsBound mark waits v d = (k : ℕ) × (k ≤ d) × ((mark v ≡ Some k) ⊎ waits k v)

-- the numbers of a level, and those of the one that follows, are in the queue
abbrev pub queue_at : ℕ → List ℕ → List ℕ → ℕ → ℕ → Type 0
queue_at level now next k v = ((k ≡ level) × Contains now v) ⊎ ((k ≡ level + 1) × Contains next v)

-- a number got the mark of a level, which is below the one that it had, if any
pub record IsLowered (level v : ℕ) (mark mark' : ℕ → Option ℕ) : Type 0 where
  pub here : mark' v ≡ Some level
  pub others : (q : ℕ) → q ≢ v → mark' q ≡ mark q
  pub lower : (j : ℕ) → mark v ≡ Some j → level < j

-- a number that has no mark at most the level gets that of the level, and comes into the queue
abbrev pub Enqueues : ℕ → ℕ → (ℕ → Option ℕ) → List (ℕ × Option ℕ) → List (ℕ × Option ℕ) → List ℕ → List ℕ → Type 0
Enqueues level v below rows rows' queue queue' =
    (((k : ℕ) × (k ≤ level) × (mark_over rows below v ≡ Some k)) × (rows' ≡ rows)
    × (queue' ≡ queue))
    ⊎ (IsLowered level v (mark_over rows below) (mark_over rows' below)
    × (queue' ≡ queue ++ v ∷ []))

module _ (links : ℕ → ℕ → Type 0) (terminal : ℕ → Bool) (start top : ℕ) where
  -- marks and what waits stand for walks, and where a walk goes on there is a mark that is low enough, or a number
  -- waits
  pub record IsReady (mark : ℕ → Option ℕ) (waits : ℕ → ℕ → Type 0) : Type 0 where
    pub sound : (v k : ℕ) → mark v ≡ Some k → (k ≤ top) × Walk links terminal start k v
    pub walks : (v k : ℕ) → waits k v → (k ≤ top) × Walk links terminal start k v
    pub begun : IsBound mark waits start 0
    pub along : (x y d : ℕ) → Expands terminal top mark x d → links x y → IsBound mark waits y (suc d)

  -- the same while numbers are in the queue: these have the mark of their level, and where a walk goes on from
  -- another number there is a mark that is low enough, or a seed
  pub record IsReadyBut (mark : ℕ → Option ℕ) (seeds queued : ℕ → ℕ → Type 0) : Type 0 where
    pub sound : (v k : ℕ) → mark v ≡ Some k → (k ≤ top) × Walk links terminal start k v
    pub walks : (v k : ℕ) → seeds k v → (k ≤ top) × Walk links terminal start k v
    pub begun : IsBound mark seeds start 0
    pub in_queue : (v k : ℕ) → queued k v → mark v ≡ Some k
    pub along : (x y d : ℕ) → Expands terminal top mark x d → links x y → queued d x ⊎ IsBound mark seeds y (suc d)

  -- the same for seeds as a list, and for the numbers of a level and of the one that follows
  abbrev pub IsFalling : (ℕ → Option ℕ) → List (ℕ × ℕ) → ℕ → List ℕ → List ℕ → Type 0
  IsFalling mark seeds level now next = IsReadyBut mark (λ k v. Contains seeds (k, v)) (queue_at level now next)

  -- a walk ends in the number that has fewer links than its mark says, if it has one
  pub record Improves (mark : ℕ → Option ℕ) (v : ℕ) : Type 0 where
    pub links_of_it : ℕ
    pub within : links_of_it ≤ top
    pub walk : Walk links terminal start links_of_it v
    pub fewer : (j : ℕ) → mark v ≡ Some j → links_of_it < j

  -- a number that was improved, and whose mark is at most the level
  abbrev pub IsSet : (ℕ → Option ℕ) → (ℕ → Option ℕ) → ℕ → ℕ → Type 0
  IsSet first mark level v = Improves first v × ((j : ℕ) × (mark v ≡ Some j) × (j ≤ level))

  -- marks only fell, and each step is charged to a number whose mark fell
  pub record IsCharged (count : ℕ → ℕ) (first mark : ℕ → Option ℕ) (level before after : ℕ) : Type 0 where
    pub falls : (v j : ℕ) → first v ≡ Some j → (i : ℕ) × (mark v ≡ Some i) × (i ≤ j)
    pub spent : IsWithin count (IsSet first mark level) 1 before after
