-- What one number changes while marks fall: a seed or a neighbour is set and comes into the queue, a number of the
-- queue is scanned and leaves it.
-- Plan: what is in the queue; general steps over relations (`ready_set`, `ready_scanned`, `ready_passed`); the charge
-- of a number that is set (`charged_set`); the same for one seed (`admitted`) and one neighbour (`offered`), by what
-- putting a number into the queue says; a level that begins and ends.
use Rattle.std.proofs.Common.{◌≡◌, ◌≢◌, ℕ, suc, ◌+◌, ◌<◌, ◌≤◌, Bool, false, Option, Some, None, List, [], ◌∷◌, ◌++◌, Contains, sum_by, ◌⊎◌, inl, inr, refl, sym, ap, subst, ◌∙◌, arith}
use Rattle.std.proofs.lemmas.Option.{same_Some, none-some}
use Rattle.std.proofs.lemmas.Bool.{cases_eq, cases_lt}
use Rattle.std.proofs.lemmas.List.Elements.{Contains-append_left, Contains-append_right, Contains-append_cases, Contains-push, Contains-push_cases, All-weaker, All-cons}
use Rattle.std.proofs.lemmas.List.Sums.{sum_by-cons, sum_by_push}
use Rattle.ifmap_lemmas.specs.Distinct.{contains_one, no_member, distinct_cons}
use Rattle.ifmap_region.specs.Links.{Linked}
use Rattle.ifmap_region.specs.Marks.{mark_over}
use Rattle.ifmap_region.specs.Walks.{Walk, goes_on, AreDepths, Expands}
use Rattle.ifmap_region.specs.Spreading.{queue_at, IsBound, IsReady, IsReadyBut, IsFalling, IsLowered, Enqueues, Improves, IsSet, IsCharged}
use Rattle.ifmap_region.proofs.Ready.{depths_ready, charged_start, charged_later}

module _ (level v : ℕ) where
  -- what is in the queue is its first number, or in the rest
  pub queue_out : (rest next : List ℕ) (k x : ℕ) → queue_at level (v ∷ rest) next k x
      → ((k ≡ level) × (x ≡ v)) ⊎ queue_at level rest next k x
  queue_out rest next k x w = elim w [
    | inl p ↦ elim (Contains-append_cases (v ∷ []) rest x p.1) [
      | inl one ↦ inl (p.0, sym (contains_one v x one))
      | inr r ↦ inr (inl (p.0, r))
    ]
    | inr c ↦ inr (inr c)
  ]

  pub queue_in : (rest next : List ℕ) (k x : ℕ) → queue_at level rest next k x → queue_at level (v ∷ rest) next k x
  queue_in rest next k x w = elim w [ inl p ↦ inl (p.0, Contains-append_right (v ∷ []) rest x p.1) | inr c ↦ inr c ]

  pub queue_first : (rest next : List ℕ) → queue_at level (v ∷ rest) next level v
  queue_first rest next = inl (refl, (0, omega arith, refl))

  -- a number more of the level
  pub now_in : (now next : List ℕ) (k x : ℕ) → queue_at level now next k x → queue_at level (now ++ v ∷ []) next k x
  now_in now next k x w = elim w [ inl p ↦ inl (p.0, Contains-append_left now (v ∷ []) x p.1) | inr c ↦ inr c ]

  pub now_new : (now next : List ℕ) → queue_at level (now ++ v ∷ []) next level v
  now_new now next = inl (refl, Contains-push now v)

  pub now_out : (now next : List ℕ) (k x : ℕ) → queue_at level (now ++ v ∷ []) next k x
      → ((k ≡ level) × (x ≡ v)) ⊎ queue_at level now next k x
  now_out now next k x w = elim w [
    | inl p ↦ elim (Contains-push_cases now v x p.1) [ inl old ↦ inr (inl (p.0, old)) | inr e ↦ inl (p.0, sym e) ]
    | inr c ↦ inr (inr c)
  ]

  -- a number more of the level that follows
  pub next_in : (now next : List ℕ) (k x : ℕ) → queue_at level now next k x → queue_at level now (next ++ v ∷ []) k x
  next_in now next k x w = elim w [ inl p ↦ inl p | inr c ↦ inr (c.0, Contains-append_left next (v ∷ []) x c.1) ]

  pub next_new : (now next : List ℕ) → queue_at level now (next ++ v ∷ []) (level + 1) v
  next_new now next = inr (refl, Contains-push next v)

  pub next_out : (now next : List ℕ) (k x : ℕ) → queue_at level now (next ++ v ∷ []) k x
      → ((k ≡ level + 1) × (x ≡ v)) ⊎ queue_at level now next k x
  next_out now next k x w = elim w [
    | inl p ↦ inr (inl p)
    | inr c ↦ elim (Contains-push_cases next v x c.1) [ inl old ↦ inr (inr (c.0, old)) | inr e ↦ inl (c.0, sym e) ]
  ]

-- the first seed, and those after it
module _ (level v : ℕ) (seeds rest : List (ℕ × ℕ)) (is : seeds ≡ (level, v) ∷ rest) where
  pub seed_first : Contains seeds (level, v)
  seed_first = subst (λ (l : List (ℕ × ℕ)). Contains l (level, v)) (sym is) (0, omega arith, refl)

  pub seed_out : (k x : ℕ) → Contains seeds (k, x) → ((k ≡ level) × (x ≡ v)) ⊎ Contains rest (k, x)
  seed_out k x h = elim (Contains-append_cases ((level, v) ∷ []) rest (k, x) (subst (λ (l : List (ℕ × ℕ)). Contains l (k, x)) is h)) [
    | inl one ↦ let e = contains_one (level, v) (k, x) one in
        inl (ap (λ (q : ℕ × ℕ). q.0) (sym e), ap (λ (q : ℕ × ℕ). q.1) (sym e))
    | inr r ↦ inr r
  ]

  pub seed_in : (k x : ℕ) → Contains rest (k, x) → Contains seeds (k, x)
  seed_in k x h = subst (λ (l : List (ℕ × ℕ)). Contains l (k, x)) (sym is) (Contains-append_right ((level, v) ∷ []) rest (k, x) h)

queue_low : (level : ℕ) (now : List ℕ) (k x : ℕ) → queue_at level now [] k x → k ≤ level
queue_low level now k x w = elim w [ inl p ↦ omega (arith, p.0) | inr c ↦ absurd (no_member [] x refl c.1) ]

queue_lower : (level : ℕ) (now next : List ℕ) (k x : ℕ) → queue_at level now next k x → k ≤ level + 1
queue_lower level now next k x w = elim w [ inl p ↦ omega (arith, p.0) | inr c ↦ omega (arith, c.0) ]

module _ (links : ℕ → ℕ → Type 0) (terminal : ℕ → Bool) (start top : ℕ) where
  -- nothing is in the queue yet
  pub ready_but : (m : ℕ → Option ℕ) (seeds seeds' queued : ℕ → ℕ → Type 0) → ((k x : ℕ) → seeds k x → seeds' k x)
      → ((k x : ℕ) → seeds' k x → seeds k x) → ((k x : ℕ) → queued k x → ⊥)
      → IsReady links terminal start top m seeds → IsReadyBut links terminal start top m seeds' queued
  ready_but m seeds seeds' queued there back none r = record {
    sound = r.sound;
    walks = λ x k w. r.walks x k (back k x w);
    begun = (r.begun.0, r.begun.1, elim r.begun.2 [ inl known ↦ inl known | inr w ↦ inr (there r.begun.0 start w) ]);
    in_queue = λ x k q. absurd (none k x q);
    along = λ x y d e l. let b = r.along x y d e l in
        inr (b.0, b.1, elim b.2 [ inl known ↦ inl known | inr w ↦ inr (there b.0 y w) ]);
  }

  -- the same numbers are in the queue
  pub ready_same : (m : ℕ → Option ℕ) (seeds queued queued' : ℕ → ℕ → Type 0) → ((k x : ℕ) → queued k x → queued' k x)
      → ((k x : ℕ) → queued' k x → queued k x)
      → IsReadyBut links terminal start top m seeds queued → IsReadyBut links terminal start top m seeds queued'
  ready_same m seeds queued queued' there back r = record {
    sound = r.sound;
    walks = r.walks;
    begun = r.begun;
    in_queue = λ x k q. r.in_queue x k (back k x q);
    along = λ x y d e l. elim (r.along x y d e l) [ inl q ↦ inl (there d x q) | inr b ↦ inr b ];
  }

  -- a number of the queue is scanned, and its neighbours have marks that are low enough
  pub ready_scanned : (m : ℕ → Option ℕ) (seeds queued queued' : ℕ → ℕ → Type 0) (level v : ℕ)
      → ((k x : ℕ) → queued k x → ((k ≡ level) × (x ≡ v)) ⊎ queued' k x) → ((k x : ℕ) → queued' k x → queued k x)
      → ((w : ℕ) → Expands terminal top m v level → links v w → (k : ℕ) × (k ≤ level + 1) × (m w ≡ Some k))
      → IsReadyBut links terminal start top m seeds queued → IsReadyBut links terminal start top m seeds queued'
  ready_scanned m seeds queued queued' level v there back low r = record {
    sound = r.sound;
    walks = r.walks;
    begun = r.begun;
    in_queue = λ x k q. r.in_queue x k (back k x q);
    along = along;
  }
    where
      along : (x y d : ℕ) → Expands terminal top m x d → links x y → queued' d x ⊎ IsBound m seeds y (suc d)
      along x y d e l = elim (r.along x y d e l) [
        | inl q ↦ elim (there d x q) [
          | inl at ↦
              let here : Expands terminal top m v level = record {
                marked = ap m (sym at.1) ∙ e.marked ∙ ap Some at.0;
                below = omega (arith, e.below, at.0);
                passable = ap terminal (sym at.1) ∙ e.passable;
              } in
              let b = low y here (subst (λ (n : ℕ). links n y) at.1 l) in
              inr (b.0, omega (arith, b.1, at.0), inl b.2)
          | inr q' ↦ inl q'
        ]
        | inr b ↦ inr b
      ]

  -- a seed whose mark is low enough goes
  pub ready_passed : (m : ℕ → Option ℕ) (seeds seeds' queued : ℕ → ℕ → Type 0) (level v j : ℕ) → m v ≡ Some j → j ≤ level
      → ((k x : ℕ) → seeds k x → ((k ≡ level) × (x ≡ v)) ⊎ seeds' k x) → ((k x : ℕ) → seeds' k x → seeds k x)
      → IsReadyBut links terminal start top m seeds queued → IsReadyBut links terminal start top m seeds' queued
  ready_passed m seeds seeds' queued level v j marked le there back r = record {
    sound = r.sound;
    walks = λ x k w. r.walks x k (back k x w);
    begun = bound start 0 r.begun;
    in_queue = r.in_queue;
    along = λ x y d e l. elim (r.along x y d e l) [ inl q ↦ inl q | inr b ↦ inr (bound y (suc d) b) ];
  }
    where
      bound : (y d : ℕ) → IsBound m seeds y d → IsBound m seeds' y d
      bound y d b = elim b.2 [
        | inl known ↦ (b.0, b.1, inl known)
        | inr w ↦ elim (there b.0 y w) [
          | inl at ↦ (j, omega (arith, le, at.0, b.1), inl (ap m at.1 ∙ marked))
          | inr w' ↦ (b.0, b.1, inr w')
        ]
      ]

  module _ (m m' : ℕ → Option ℕ) (level v : ℕ) (low : IsLowered level v m m')
      (walk : (level ≤ top) × Walk links terminal start level v) where
    -- a number gets the mark of a level and comes into the queue
    pub ready_set : (seeds seeds' queued queued' : ℕ → ℕ → Type 0) → ((k x : ℕ) → queued k x → k ≤ level)
        → ((k x : ℕ) → seeds k x → ((k ≡ level) × (x ≡ v)) ⊎ seeds' k x) → ((k x : ℕ) → seeds' k x → seeds k x)
        → ((k x : ℕ) → queued k x → queued' k x) → queued' level v
        → ((k x : ℕ) → queued' k x → ((k ≡ level) × (x ≡ v)) ⊎ queued k x)
        → IsReadyBut links terminal start top m seeds queued → IsReadyBut links terminal start top m' seeds' queued'
    ready_set seeds seeds' queued queued' below there back enter new leave r = record {
      sound = sound;
      walks = λ x k w. r.walks x k (back k x w);
      begun = bound start 0 r.begun;
      in_queue = in_queue;
      along = along;
    }
      where
        sound : (q k : ℕ) → m' q ≡ Some k → (k ≤ top) × Walk links terminal start k q
        sound q k e = elim (cases_eq q v) [
          | inl at ↦ let same : level ≡ k = same_Some level k (sym low.here ∙ ap m' (sym at) ∙ e) in (
            omega (arith, walk.0, same),
            subst (λ (n : ℕ). Walk links terminal start n q) same (subst (λ (x : ℕ). Walk links terminal start level x) (sym at) walk.1),
          )
          | inr apart ↦ r.sound q k (sym (low.others q apart) ∙ e)
        ]

        bound : (y d : ℕ) → IsBound m seeds y d → IsBound m' seeds' y d
        bound y d b = elim (cases_eq y v) [
          | inl at ↦ elim b.2 [
            | inl known ↦ (level, omega (arith, low.lower b.0 (ap m (sym at) ∙ known), b.1), inl (ap m' at ∙ low.here))
            | inr w ↦ elim (there b.0 y w) [
              | inl p ↦ (level, omega (arith, p.0, b.1), inl (ap m' at ∙ low.here))
              | inr w' ↦ (b.0, b.1, inr w')
            ]
          ]
          | inr apart ↦ elim b.2 [
            | inl known ↦ (b.0, b.1, inl (low.others y apart ∙ known))
            | inr w ↦ elim (there b.0 y w) [
              | inl p ↦ absurd (apart p.1)
              | inr w' ↦ (b.0, b.1, inr w')
            ]
          ]
        ]

        in_queue : (x k : ℕ) → queued' k x → m' x ≡ Some k
        in_queue x k q = elim (leave k x q) [
          | inl at ↦ ap m' at.1 ∙ low.here ∙ ap Some (sym at.0)
          | inr old ↦ elim (cases_eq x v) [
            | inl at ↦
                let lower : level < k = low.lower k (ap m (sym at) ∙ r.in_queue x k old) in
                let le = below k x old in
                absurd (omega (arith, lower, le))
            | inr apart ↦ low.others x apart ∙ r.in_queue x k old
          ]
        ]

        along : (x y d : ℕ) → Expands terminal top m' x d → links x y → queued' d x ⊎ IsBound m' seeds' y (suc d)
        along x y d e l = elim (cases_eq x v) [
          | inl at ↦
              let same : level ≡ d = same_Some level d (sym low.here ∙ ap m' (sym at) ∙ e.marked) in
              inl (subst (λ (n : ℕ). queued' n x) same (subst (λ (z : ℕ). queued' level z) (sym at) new))
          | inr apart ↦ elim (r.along x y d (record {
            marked = sym (low.others x apart) ∙ e.marked;
            below = e.below;
            passable = e.passable;
          }) l) [
            | inl q ↦ inl (enter d x q)
            | inr b ↦ inr (bound y (suc d) b)
          ]
        ]

    -- its scan is charged to it
    pub charged_set : (count : ℕ → ℕ) (first : ℕ → Option ℕ) (before steps after : ℕ) → after ≤ steps + count v
        → IsCharged links terminal start top count first m level before steps
        → IsCharged links terminal start top count first m' level before after
    charged_set count first before steps after le c = record {
      falls = falls;
      spent = record {
        numbers = v ∷ c.spent.numbers;
        distinct = distinct_cons v c.spent.numbers
            (All-weaker (IsSet links terminal start top first m level) (λ (y : ℕ). v ≢ y) apart c.spent.numbers c.spent.among)
            c.spent.distinct;
        among = All-cons (IsSet links terminal start top first m' level) v c.spent.numbers (improved, (level, low.here, omega arith))
            (All-weaker (IsSet links terminal start top first m level) (IsSet links terminal start top first m' level) kept
            c.spent.numbers c.spent.among);
        bound = omega (arith, le, c.spent.bound, sum_by-cons count v c.spent.numbers);
      };
    }
      where
        falls : (x j : ℕ) → first x ≡ Some j → (i : ℕ) × (m' x ≡ Some i) × (i ≤ j)
        falls x j e = let f = c.falls x j e in elim (cases_eq x v) [
          | inl at ↦ (level, ap m' at ∙ low.here, omega (arith, low.lower f.0 (ap m (sym at) ∙ f.1), f.2))
          | inr ne ↦ (f.0, low.others x ne ∙ f.1, f.2)
        ]

        apart : (y : ℕ) → IsSet links terminal start top first m level y → v ≢ y
        apart y s at = let p = s.1 in let l : level < p.0 = low.lower p.0 (ap m at ∙ p.1) in absurd (omega (arith, l, p.2))

        kept : (y : ℕ) → IsSet links terminal start top first m level y → IsSet links terminal start top first m' level y
        kept y s = let p = s.1 in (s.0, (p.0, low.others y (λ at. apart y s (sym at)) ∙ p.1, p.2))

        improved : Improves links terminal start top first v
        improved = record {
          links_of_it = level;
          within = walk.0;
          walk = walk.1;
          fewer = λ j e. let f = c.falls v j e in omega (arith, low.lower f.0 f.1, f.2);
        }

  -- fewer steps
  pub charged_fewer : (count : ℕ → ℕ) (first m : ℕ → Option ℕ) (level before fewer after : ℕ) → fewer ≤ after
      → IsCharged links terminal start top count first m level before after
      → IsCharged links terminal start top count first m level before fewer
  charged_fewer count first m level before fewer after le c = record {
    falls = c.falls;
    spent = record {
      numbers = c.spent.numbers;
      distinct = c.spent.distinct;
      among = c.spent.among;
      bound = omega (arith, le, c.spent.bound);
    };
  }

  -- nothing is left to look at
  pub depths_fallen : (m : ℕ → Option ℕ) (seeds : List (ℕ × ℕ)) (floor : ℕ) (next : List ℕ) → next ≡ [] → seeds ≡ []
      → IsFalling links terminal start top m seeds floor next [] → AreDepths links terminal start top m
  depths_fallen m seeds floor next no_next no_seed r =
      depths_ready links terminal start top m (λ k v. Contains seeds (k, v)) (λ k x h. no_member seeds (k, x) no_seed h) (record {
        sound = r.sound;
        walks = r.walks;
        begun = r.begun;
        along = λ x y d e l. elim (r.along x y d e l) [
          | inl q ↦ elim q [ inl p ↦ absurd (no_member next x no_next p.1) | inr c ↦ absurd (no_member [] x refl c.1) ]
          | inr b ↦ b
        ];
      })

  -- the seeds alone wait
  pub falling_begun : (m : ℕ → Option ℕ) (given sorted : List (ℕ × ℕ)) (next : List ℕ)
      → ((s : ℕ × ℕ) → Contains given s → Contains sorted s) → ((s : ℕ × ℕ) → Contains sorted s → Contains given s) → next ≡ []
      → IsReady links terminal start top m (λ k v. Contains given (k, v)) → IsFalling links terminal start top m sorted 0 next []
  falling_begun m given sorted next kept only none r =
      ready_but m (λ k v. Contains given (k, v)) (λ k v. Contains sorted (k, v)) (queue_at 0 next []) (λ k x h. kept (k, x) h)
      (λ k x h. only (k, x) h)
      (λ k x q. elim q [ inl p ↦ no_member next x none p.1 | inr p ↦ no_member [] x refl p.1 ]) r

  pub charged_begun : (count : ℕ → ℕ) (m : ℕ → Option ℕ) (before : ℕ) (next : List ℕ) → next ≡ []
      → IsCharged links terminal start top count m m 0 before (before + sum_by count next)
  charged_begun count m before next none =
      subst (λ (l : List ℕ). IsCharged links terminal start top count m m 0 before (before + sum_by count l)) (sym none)
      (charged_fewer count m m 0 before (before + sum_by count []) before (omega arith) (charged_start links terminal start top count m 0
      before))

  -- what waited for the level that follows is that level
  pub level_ended : (m : ℕ → Option ℕ) (seeds : List (ℕ × ℕ)) (level floor : ℕ) (next : List ℕ) → floor ≡ level + 1
      → IsFalling links terminal start top m seeds level [] next → IsFalling links terminal start top m seeds floor next []
  level_ended m seeds level floor next is r =
      ready_same m (λ k v. Contains seeds (k, v)) (queue_at level [] next) (queue_at floor next [])
      (λ k x w. elim w [ inl p ↦ absurd (no_member [] x refl p.1) | inr c ↦ inl (c.0 ∙ sym is, c.1) ])
      (λ k x w. elim w [ inl p ↦ inr (p.0 ∙ is, p.1) | inr c ↦ absurd (no_member [] x refl c.1) ]) r

  -- a level begins: what waited for it is the queue
  pub level_begun : (m : ℕ → Option ℕ) (seeds : List (ℕ × ℕ)) (floor level : ℕ) (next now : List ℕ) → now ≡ next
      → (next ≡ []) ⊎ (level ≡ floor)
      → IsFalling links terminal start top m seeds floor next [] → IsFalling links terminal start top m seeds level now []
  level_begun m seeds floor level next now same side r =
      subst (λ (l : List ℕ). IsFalling links terminal start top m seeds level l []) (sym same)
      (ready_same m (λ k v. Contains seeds (k, v)) (queue_at floor next []) (queue_at level next [])
      (λ k x w. elim w [ inl p ↦ inl (p.0 ∙ sym (at x p.1), p.1) | inr c ↦ absurd (no_member [] x refl c.1) ])
      (λ k x w. elim w [ inl p ↦ inl (p.0 ∙ at x p.1, p.1) | inr c ↦ absurd (no_member [] x refl c.1) ]) r)
    where
      at : (x : ℕ) → Contains next x → level ≡ floor
      at x h = elim side [ inl none ↦ absurd (no_member next x none h) | inr e ↦ e ]

  pub charged_level : (count : ℕ → ℕ) (first m : ℕ → Option ℕ) (floor level before steps : ℕ) (next now : List ℕ) → now ≡ next
      → floor ≤ level → IsCharged links terminal start top count first m floor before (steps + sum_by count next)
      → IsCharged links terminal start top count first m level before (steps + sum_by count now)
  charged_level count first m floor level before steps next now same le c =
      subst (λ (l : List ℕ). IsCharged links terminal start top count first m level before (steps + sum_by count l)) (sym same)
      (charged_later links terminal start top count first m floor level before (steps + sum_by count next) le c)

  -- the queue is handed on as a slice, beside an empty one for the level that follows
  pub queue_handed : (m : ℕ → Option ℕ) (seeds : List (ℕ × ℕ)) (level : ℕ) (now slice next : List ℕ) → slice ≡ now → next ≡ []
      → IsFalling links terminal start top m seeds level now [] → IsFalling links terminal start top m seeds level slice next
  queue_handed m seeds level now slice next same none r =
      subst (λ (l : List ℕ). IsFalling links terminal start top m seeds level l next) (sym same)
      (subst (λ (l : List ℕ). IsFalling links terminal start top m seeds level now l) (sym none) r)

  pub charged_handed : (count : ℕ → ℕ) (first m : ℕ → Option ℕ) (level before steps : ℕ) (now slice next : List ℕ) → slice ≡ now
      → next ≡ [] → IsCharged links terminal start top count first m level before (steps + sum_by count now)
      → IsCharged links terminal start top count first m (level + 1) before (steps + sum_by count slice + sum_by count next)
  charged_handed count first m level before steps now slice next same none c =
      subst (λ (l : List ℕ). IsCharged links terminal start top count first m (level + 1) before
      (steps + sum_by count l + sum_by count next)) (sym same)
      (subst (λ (l : List ℕ). IsCharged links terminal start top count first m (level + 1) before (steps + sum_by count now + sum_by count
      l)) (sym none)
      (charged_later links terminal start top count first m level (level + 1) before (steps + sum_by count now + sum_by count [])
      (omega arith)
      (charged_fewer count first m level before (steps + sum_by count now + sum_by count []) (steps + sum_by count now) (omega arith) c)))

  module _ (count : ℕ → ℕ) (below : ℕ → Option ℕ) (rows rows' : List (ℕ × Option ℕ)) where
    -- a number that comes into the queue is charged with its scan
    pub charged_more : (level v : ℕ) (queue queue' : List ℕ) (first : ℕ → Option ℕ) (before owed : ℕ)
        → (level ≤ top) × Walk links terminal start level v → Enqueues level v below rows rows' queue queue'
        → IsCharged links terminal start top count first (mark_over rows below) level before (owed + sum_by count queue)
        → IsCharged links terminal start top count first (mark_over rows' below) level before (owed + sum_by count queue')
    charged_more level v queue queue' first before owed walk put c = elim put [
      | inl p ↦ subst (λ (l : List ℕ). IsCharged links terminal start top count first (mark_over rows' below) level before
          (owed + sum_by count l)) (sym p.2)
          (subst (λ (r : List (ℕ × Option ℕ)). IsCharged links terminal start top count first (mark_over r below) level before
          (owed + sum_by count queue)) (sym p.1) c)
      | inr p ↦ charged_set (mark_over rows below) (mark_over rows' below) level v p.0 walk count first before (owed + sum_by count queue)
          (owed + sum_by count queue') (omega (arith, ap (sum_by count) p.1, sum_by_push count queue v)) c
    ]

    -- at want of memory
    pub charged_part : (level v : ℕ) (queue : List ℕ) (first : ℕ → Option ℕ) (before owed : ℕ)
        → (level ≤ top) × Walk links terminal start level v
        → (rows' ≡ rows) ⊎ IsLowered level v (mark_over rows below) (mark_over rows' below)
        → IsCharged links terminal start top count first (mark_over rows below) level before (owed + sum_by count queue)
        → IsCharged links terminal start top count first (mark_over rows' below) level before (owed + sum_by count queue)
    charged_part level v queue first before owed walk put c = elim put [
      | inl e ↦ subst (λ (r : List (ℕ × Option ℕ)). IsCharged links terminal start top count first (mark_over r below) level before
          (owed + sum_by count queue)) (sym e) c
      | inr p ↦ charged_set (mark_over rows below) (mark_over rows' below) level v p walk count first before (owed + sum_by count queue)
          (owed + sum_by count queue) (omega arith) c
    ]

    -- a seed comes into the queue, or is passed over
    pub seed_admitted : (level v : ℕ) (seeds rest : List (ℕ × ℕ)) (queue queue' : List ℕ) → seeds ≡ (level, v) ∷ rest
        → Enqueues level v below rows rows' queue queue'
        → IsFalling links terminal start top (mark_over rows below) seeds level queue []
        → IsFalling links terminal start top (mark_over rows' below) rest level queue' []
    seed_admitted level v seeds rest queue queue' is put r = elim put [
      | inl p ↦ subst (λ (l : List ℕ). IsFalling links terminal start top (mark_over rows' below) rest level l []) (sym p.2)
          (subst (λ (o : List (ℕ × Option ℕ)). IsFalling links terminal start top (mark_over o below) rest level queue []) (sym p.1)
          (ready_passed (mark_over rows below) (λ k x. Contains seeds (k, x)) (λ k x. Contains rest (k, x)) (queue_at level queue []) level
          v p.0.0 p.0.2 p.0.1 (seed_out level v seeds rest is) (seed_in level v seeds rest is) r))
      | inr p ↦ subst (λ (l : List ℕ). IsFalling links terminal start top (mark_over rows' below) rest level l []) (sym p.1)
          (ready_set (mark_over rows below) (mark_over rows' below) level v p.0 (r.walks v level (seed_first level v seeds rest is))
          (λ k x. Contains seeds (k, x)) (λ k x. Contains rest (k, x)) (queue_at level queue []) (queue_at level (queue ++ v ∷ []) [])
          (queue_low level queue) (seed_out level v seeds rest is) (seed_in level v seeds rest is)
          (now_in level v queue []) (now_new level v queue []) (now_out level v queue []) r)
    ]

-- the walk of a seed
pub seed_walk : (links : ℕ → ℕ → Type 0) (terminal : ℕ → Bool) (start top : ℕ) (m : ℕ → Option ℕ) (level v : ℕ) (seeds rest : List (ℕ × ℕ))
    (queue : List ℕ) → seeds ≡ (level, v) ∷ rest → IsFalling links terminal start top m seeds level queue []
    → (level ≤ top) × Walk links terminal start level v
seed_walk links terminal start top m level v seeds rest queue is r =
    r.walks v level (subst (λ (l : List (ℕ × ℕ)). Contains l (level, v)) (sym is) (0, omega arith, refl))

-- a neighbour of the first number of the queue
module _ (count : ℕ → ℕ) (link : ℕ → ℕ → Option ℕ) (terminal : ℕ → Bool) (start top level v : ℕ) (rest : List ℕ) (seeds : List (ℕ × ℕ))
    (below : level < top) (passable : terminal v ≡ false) where
  pub neighbour_walk : (m : ℕ → Option ℕ) (next : List ℕ) (w : ℕ) → Linked count link v w
      → IsFalling (Linked count link) terminal start top m seeds level (v ∷ rest) next
      → (level + 1 ≤ top) × Walk (Linked count link) terminal start (level + 1) w
  neighbour_walk m next w l r =
      let one : suc level ≡ level + 1 = omega arith in
      let s = r.sound v level (r.in_queue v level (queue_first level v rest next)) in
      (omega (arith, below), subst (λ (n : ℕ). Walk (Linked count link) terminal start n w) one (goes_on s.1 passable l))

  pub neighbour_offered : (first : ℕ → Option ℕ) (rows rows' : List (ℕ × Option ℕ)) (next next' : List ℕ) (w : ℕ) → Linked count link v w
      → Enqueues (level + 1) w first rows rows' next next'
      → IsFalling (Linked count link) terminal start top (mark_over rows first) seeds level (v ∷ rest) next
      → IsFalling (Linked count link) terminal start top (mark_over rows' first) seeds level (v ∷ rest) next'
  neighbour_offered first rows rows' next next' w l put r = elim put [
    | inl p ↦ subst (λ (q : List ℕ). IsFalling (Linked count link) terminal start top (mark_over rows' first) seeds level (v ∷ rest) q)
        (sym p.2)
        (subst (λ (o : List (ℕ × Option ℕ)). IsFalling (Linked count link) terminal start top (mark_over o first) seeds level (v ∷ rest)
        next)
        (sym p.1) r)
    | inr p ↦ subst (λ (q : List ℕ). IsFalling (Linked count link) terminal start top (mark_over rows' first) seeds level (v ∷ rest) q)
        (sym p.1)
        (ready_set (Linked count link) terminal start top (mark_over rows first) (mark_over rows' first) (level + 1) w p.0
        (neighbour_walk (mark_over rows first) next w l r) (λ k x. Contains seeds (k, x)) (λ k x. Contains seeds (k, x))
        (queue_at level (v ∷ rest) next) (queue_at level (v ∷ rest) (next ++ w ∷ [])) (queue_lower level (v ∷ rest) next)
        (λ k x h. inr h) (λ k x h. h) (next_in level w (v ∷ rest) next) (next_new level w (v ∷ rest) next)
        (next_out level w (v ∷ rest) next) r)
  ]

-- marks that are at most the level stay, and the number has one afterwards
module _ (level v : ℕ) (below : ℕ → Option ℕ) (rows rows' : List (ℕ × Option ℕ)) (queue queue' : List ℕ)
    (put : Enqueues level v below rows rows' queue queue') where
  pub low_kept : (q : ℕ) → (k : ℕ) × (k ≤ level) × (mark_over rows below q ≡ Some k)
      → (k : ℕ) × (k ≤ level) × (mark_over rows' below q ≡ Some k)
  low_kept q h = elim put [
    | inl p ↦ (h.0, h.1, ap (λ (o : List (ℕ × Option ℕ)). mark_over o below q) p.1 ∙ h.2)
    | inr p ↦ elim (cases_eq q v) [
      | inl at ↦ (level, omega arith, ap (mark_over rows' below) at ∙ p.0.here)
      | inr apart ↦ (h.0, h.1, p.0.others q apart ∙ h.2)
    ]
  ]

  pub low_now : (k : ℕ) × (k ≤ level) × (mark_over rows' below v ≡ Some k)
  low_now = elim put [
    | inl p ↦ (p.0.0, p.0.1, ap (λ (o : List (ℕ × Option ℕ)). mark_over o below v) p.1 ∙ p.0.2)
    | inr p ↦ (level, omega arith, p.0.here)
  ]

  -- one link more, whose end came into the queue or had a mark that is low enough
  pub low_more : (link : ℕ → Option ℕ) (i : ℕ) → link i ≡ Some v
      → ((j w : ℕ) → j < i → link j ≡ Some w → (k : ℕ) × (k ≤ level) × (mark_over rows below w ≡ Some k))
      → (j w : ℕ) → j < i + 1 → link j ≡ Some w → (k : ℕ) × (k ≤ level) × (mark_over rows' below w ≡ Some k)
  low_more link i here low j w lt e = elim (cases_lt j i) [
    | inl l ↦ low_kept w (low j w l e)
    | inr ge ↦
        let at : j ≡ i = omega (arith, lt, ge) in
        let same : v ≡ w = same_Some v w (sym here ∙ ap link (sym at) ∙ e) in
        subst (λ (x : ℕ). (k : ℕ) × (k ≤ level) × (mark_over rows' below x ≡ Some k)) same low_now
  ]

-- one place more whose link does not match
pub low_unmatched : (link : ℕ → Option ℕ) (i : ℕ) (Low : ℕ → Type 0) → link i ≡ None
    → ((j w : ℕ) → j < i → link j ≡ Some w → Low w) → (j w : ℕ) → j < i + 1 → link j ≡ Some w → Low w
low_unmatched link i Low none low j w lt e = elim (cases_lt j i) [
  | inl l ↦ low j w l e
  | inr ge ↦ let at : j ≡ i = omega (arith, lt, ge) in absurd (none-some w (sym none ∙ ap link (sym at) ∙ e))
]
