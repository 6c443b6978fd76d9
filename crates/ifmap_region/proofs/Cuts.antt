-- What one number that is looked at changes, with the steps that it takes.
-- Plan: the steps are charged to what has a row, and once more to what is gone (`looked_more`, `looked_same`,
-- `spent_now`, `spent_more`). A number comes into the queue with a row (`cutting_seed`, `cutting_neighbour`) and leaves
-- it when it is looked at (`cutting_held`, `cutting_gone`); then the beginning, a level that begins, and one that ends.
use Rattle.std.proofs.Common.{◌≡◌, ◌≢◌, ℕ, suc, ◌+◌, ◌*◌, ◌<◌, ◌≤◌, Bool, false, Option, Some, None, List, [], ◌∷◌, ◌++◌, Contains, sum_by, nat_eq, is_some, ◌⊎◌, inl, inr, refl, sym, ap, subst, ◌∙◌, arith, true≢false}
use Rattle.std.specs.Prelude.{IsSome}
use Rattle.std.proofs.lemmas.Option.{same_Some, none-some}
use Rattle.std.proofs.lemmas.Bool.{cases_eq}
use Rattle.std.proofs.lemmas.List.Elements.{Contains-append_left, Contains-append_right, Contains-append_cases, Contains-push, Contains-push_cases, All-weaker, All-cons, All-nil, Contains-get_or}
use Rattle.std.proofs.lemmas.List.Sums.{sum_by-cons, sum_by_push}
use Rattle.std.specs.List.{IsDistinct}
use Rattle.ifmap_lemmas.specs.Distinct.{contains_one, no_member, distinct_cons, distinct_push, distinct_head, distinct_tail, sum_within}
use Rattle.ifmap_lemmas.specs.Options.{is_some_of, some_is}
use Rattle.ifmap_region.specs.declared.flips.Flip.{Flip}
use Rattle.ifmap_region.specs.Bounds.{IsWithin}
use Rattle.ifmap_region.specs.Flips.{WithRemoved}
use Rattle.ifmap_region.specs.Links.{Linked}
use Rattle.ifmap_region.specs.Marks.{row_of, mark_over}
use Rattle.ifmap_region.specs.Near.{NearOneWay, at_flip, beside}
use Rattle.ifmap_region.specs.Seeds.{MayHold, SeedsAlong}
use Rattle.ifmap_region.proofs.Depths.{sound_from}
use Rattle.ifmap_region.proofs.FlipLists.{flipped_back}
use Rattle.ifmap_region.specs.Spreading.{queue_at}
use Rattle.ifmap_region.specs.Losing.{Awaits, HasNearerMark, AreGone, IsLookedAt, IsBeforeCut, IsCutting}
use Rattle.ifmap_region.proofs.Lost.{losing_passed, losing_entered, losing_held, losing_gone, moved_here}
use Rattle.ifmap_region.proofs.Falling.{queue_out, queue_in, queue_first, now_in, now_new, now_out, next_in, next_new, next_out, seed_first, seed_out, seed_in}

module _ (count : ℕ → ℕ) (rows rows' : List (ℕ × Option ℕ)) (gone : List ℕ) (v : ℕ)
    (unrowed : row_of rows v ≡ None) (others : (q : ℕ) → q ≢ v → row_of rows' q ≡ row_of rows q) where
  pub still_rowed : (r : Option ℕ) → row_of rows' v ≡ Some r → (x : ℕ) → IsSome (row_of rows x) → IsSome (row_of rows' x)
  still_rowed r here x h = elim (cases_eq x v) [
    | inl at ↦ is_some_of (row_of rows' x) r (ap (row_of rows') at ∙ here)
    | inr apart ↦ ap is_some (others x apart) ∙ h
  ]

  pub rowed_differs : (x : ℕ) → IsSome (row_of rows x) → v ≢ x
  rowed_differs x h at = let s = some_is (row_of rows x) h in none-some s.0 (sym unrowed ∙ ap (row_of rows) at ∙ s.1)

  pub looked_more : (gone' : List ℕ) (r : Option ℕ) (before steps after : ℕ) → row_of rows' v ≡ Some r
      → after + sum_by count gone ≤ steps + count v + sum_by count gone'
      → IsLookedAt count rows gone before steps → IsLookedAt count rows' gone' before after
  looked_more gone' r before steps after here le l = record {
    numbers = v ∷ l.numbers;
    distinct = distinct_cons v l.numbers (All-weaker (λ (x : ℕ). IsSome (row_of rows x)) (λ (x : ℕ). v ≢ x) rowed_differs l.numbers l.among)
        l.distinct;
    among = All-cons (λ (x : ℕ). IsSome (row_of rows' x)) v l.numbers (is_some_of (row_of rows' v) r here)
        (All-weaker (λ (x : ℕ). IsSome (row_of rows x)) (λ (x : ℕ). IsSome (row_of rows' x)) (still_rowed r here) l.numbers l.among);
    all = λ x h. elim (cases_eq x v) [
      | inl at ↦ (0, omega arith, sym at)
      | inr apart ↦ Contains-append_right (v ∷ []) l.numbers x (l.all x (ap is_some (sym (others x apart)) ∙ h))
    ];
    bound = omega (arith, le, l.bound, sum_by-cons count v l.numbers);
  }

  pub gone_held : (k : ℕ) → row_of rows' v ≡ Some (Some k) → AreGone rows gone → AreGone rows' gone
  gone_held k here g = record {
    all = λ x e. elim (cases_eq x v) [
      | inl at ↦ absurd (none-some k (sym (same_Some (Some k) None (sym here ∙ ap (row_of rows') (sym at) ∙ e))))
      | inr apart ↦ g.all x (sym (others x apart) ∙ e)
    ];
    only = λ x h. let e = g.only x h in others x (λ at. none-some None (sym unrowed ∙ ap (row_of rows) (sym at) ∙ e)) ∙ e;
    distinct = g.distinct;
  }

-- a number that had a row with a mark loses the mark
module _ (count : ℕ → ℕ) (rows rows' : List (ℕ × Option ℕ)) (gone : List ℕ) (v k : ℕ) (row : row_of rows v ≡ Some (Some k))
    (here : row_of rows' v ≡ Some None) (others : (q : ℕ) → q ≢ v → row_of rows' q ≡ row_of rows q) where
  not_gone : AreGone rows gone → (x : ℕ) → Contains gone x → x ≢ v
  not_gone g x h at = none-some k (same_Some None (Some k) (sym (g.only x h) ∙ ap (row_of rows) at ∙ row))

  pub looked_same : (gone' : List ℕ) (before steps after : ℕ) → after + sum_by count gone ≤ steps + sum_by count gone'
      → IsLookedAt count rows gone before steps → IsLookedAt count rows' gone' before after
  looked_same gone' before steps after le l = record {
    numbers = l.numbers;
    distinct = l.distinct;
    among = All-weaker (λ (x : ℕ). IsSome (row_of rows x)) (λ (x : ℕ). IsSome (row_of rows' x)) (λ x h. elim (cases_eq x v) [
      | inl at ↦ is_some_of (row_of rows' x) None (ap (row_of rows') at ∙ here)
      | inr apart ↦ ap is_some (others x apart) ∙ h
    ]) l.numbers l.among;
    all = λ x h. l.all x (elim (cases_eq x v) [
      | inl at ↦ is_some_of (row_of rows x) (Some k) (ap (row_of rows) at ∙ row)
      | inr apart ↦ ap is_some (sym (others x apart)) ∙ h
    ]);
    bound = omega (arith, le, l.bound);
  }

  pub gone_gone : AreGone rows gone → AreGone rows' (gone ++ v ∷ [])
  gone_gone g = record {
    all = λ x e. elim (cases_eq x v) [
      | inl at ↦ subst (λ (y : ℕ). Contains (gone ++ v ∷ []) y) (sym at) (Contains-push gone v)
      | inr apart ↦ Contains-append_left gone (v ∷ []) x (g.all x (sym (others x apart) ∙ e))
    ];
    only = λ x h. elim (Contains-push_cases gone v x h) [
      | inl old ↦ others x (not_gone g x old) ∙ g.only x old
      | inr at ↦ ap (row_of rows') (sym at) ∙ here
    ];
    distinct = distinct_push gone v (λ y h. not_gone g y h) g.distinct;
  }

module _ (links : ℕ → ℕ → Type 0) (terminal : ℕ → Bool) (count : ℕ → ℕ) (flips : List Flip) (start top : ℕ) (first : ℕ → Option ℕ) where
  abbrev IsNear : ℕ → Type 0
  IsNear = NearOneWay flips false (WithRemoved links flips) links terminal start top

  module _ (rows : List (ℕ × Option ℕ)) (gone : List ℕ) (seeds : List (ℕ × ℕ)) (level before : ℕ) where
    gone_within : (after : ℕ) → AreGone rows gone → (c : IsLookedAt count rows gone before after) → sum_by count gone ≤ sum_by count
        c.numbers
    gone_within after g c = sum_within count gone c.numbers g.distinct (λ x h. c.all x (is_some_of (row_of rows x) None (g.only x h)))

    pub looked_near : (now next : List ℕ) (after : ℕ)
        → IsCutting links terminal count flips start top first rows gone seeds level now next before after
        → (x : ℕ) → IsSome (row_of rows x) → NearOneWay flips false (WithRemoved links flips) links terminal start top x
    looked_near now next after c x h = let s = some_is (row_of rows x) h in (c.losing.rowed x s.0 s.1).3

    pub spent_now : (now next : List ℕ) (after : ℕ)
        → IsCutting links terminal count flips start top first rows gone seeds level now next before after
        → IsWithin count (NearOneWay flips false (WithRemoved links flips) links terminal start top) 2 before after
    spent_now now next after c = record {
      numbers = c.charged.numbers;
      distinct = c.charged.distinct;
      among = All-weaker (λ (x : ℕ). IsSome (row_of rows x)) (NearOneWay flips false (WithRemoved links flips) links terminal start top)
          (looked_near now next after c) c.charged.numbers c.charged.among;
      bound = omega (arith, c.charged.bound, gone_within (after + sum_by count now + sum_by count next) c.are_gone c.charged);
    }

    -- the first number of the queue is looked at
    pub spent_more : (v : ℕ) (rest next : List ℕ) (steps after : ℕ) → after ≤ steps + 2 * count v
        → IsCutting links terminal count flips start top first rows gone seeds level (v ∷ rest) next before steps
        → IsWithin count (NearOneWay flips false (WithRemoved links flips) links terminal start top) 2 before after
    spent_more v rest next steps after le c =
        let row = c.losing.in_queue level v (queue_first level v rest next) in
        let more = sum_within count (v ∷ gone) c.charged.numbers (distinct_cons v gone (λ i e lt at. none-some level
        (same_Some None (Some level)
        (sym (c.are_gone.only _ (Contains-get_or gone i e lt)) ∙ ap (row_of rows) (sym at) ∙ row))) c.are_gone.distinct)
        (λ x h. elim (Contains-append_cases (v ∷ []) gone x h) [
          | inl one ↦ c.charged.all x (is_some_of (row_of rows x) (Some level) (ap (row_of rows) (sym (contains_one v x one)) ∙ row))
          | inr later ↦ c.charged.all x (is_some_of (row_of rows x) None (c.are_gone.only x later))
        ]) in
        record {
          numbers = c.charged.numbers;
          distinct = c.charged.distinct;
          among = All-weaker (λ (x : ℕ). IsSome (row_of rows x)) (NearOneWay flips false (WithRemoved links flips) links terminal start top)
              (looked_near (v ∷ rest) next steps c) c.charged.numbers c.charged.among;
          bound = omega (arith, le, c.charged.bound, more, sum_by-cons count v gone, sum_by-cons count v rest);
        }

module _ (count : ℕ → ℕ) (link : ℕ → ℕ → Option ℕ) (terminal : ℕ → Bool) (flips : List Flip) (start top : ℕ) (first : ℕ → Option ℕ)
    (b : IsBeforeCut (Linked count link) terminal flips start top first) (gone : List ℕ) (level : ℕ) (before : ℕ) where
  abbrev Near : ℕ → Type 0
  Near = NearOneWay flips false (WithRemoved (Linked count link) flips) (Linked count link) terminal start top

  abbrev Cutting : List (ℕ × Option ℕ) → List ℕ → List (ℕ × ℕ) → List ℕ → List ℕ → ℕ → Type 0
  Cutting rows gone' seeds now next = IsCutting (Linked count link) terminal count flips start top first rows gone' seeds level now next
      before

  -- a seed comes into the queue, or has a row and is passed over
  pub cutting_seed : (rows rows' : List (ℕ × Option ℕ)) (seeds rest : List (ℕ × ℕ)) (now now' : List ℕ) (w spent : ℕ) → seeds ≡ (level, w)
      ∷ rest
      → Awaits level w rows rows' now now' → Cutting rows gone seeds now [] spent → Cutting rows' gone rest now' [] spent
  cutting_seed rows rows' seeds rest now now' w spent is put c = elim put [
    | inl p ↦ subst (λ (l : List ℕ). Cutting rows' gone rest l [] spent) (sym p.2)
        (subst (λ (r : List (ℕ × Option ℕ)). Cutting r gone rest now [] spent) (sym p.1) (passed_by p.0))
    | inr p ↦ subst (λ (l : List ℕ). Cutting rows' gone rest l [] spent) (sym p.1) (record {
      losing = losing_entered (WithRemoved (Linked count link) flips) (Linked count link) terminal start top first b.depths
          (λ u x l. inl l) Near
          rows rows' (λ k x. Contains seeds (k, x)) (λ k x. Contains rest (k, x)) (queue_at level now [])
          (queue_at level (now ++ w ∷ []) [])
          level level w p.0 seed.0 seed.1 seed.2 (seed_out level w seeds rest is) (seed_in level w seeds rest is)
          (now_in level w now []) (now_new level w now []) (now_out level w now []) c.losing;
      are_gone = gone_held count rows rows' gone w p.0.bare p.0.others level p.0.here c.are_gone;
      once_now = distinct_push now w (λ y h at. none-some (Some level) (sym p.0.bare ∙ ap (row_of rows) (sym at) ∙ c.losing.in_queue level y
          (inl (refl, h)))) c.once_now;
      once_next = c.once_next;
      charged = looked_more count rows rows' gone w p.0.bare p.0.others gone (Some level) before (spent + sum_by count now + sum_by count
          [])
          (spent + sum_by count (now ++ w ∷ []) + sum_by count []) p.0.here (omega (arith, sum_by_push count now w)) c.charged;
    })
  ]
    where
      seed : (first w ≡ Some level) × (0 < level) × Near w
      seed = c.losing.entered level w (seed_first level w seeds rest is)

      passed_by : IsSome (row_of rows w) → Cutting rows gone rest now [] spent
      passed_by h = let s = some_is (row_of rows w) h in record {
        losing = losing_passed (WithRemoved (Linked count link) flips) (Linked count link) terminal start top first b.depths
            (λ u x l. inl l) Near
            rows (λ k x. Contains seeds (k, x)) (λ k x. Contains rest (k, x)) (queue_at level now []) level w s.0 s.1
            (seed_out level w seeds rest is) (seed_in level w seeds rest is) c.losing;
        are_gone = c.are_gone;
        once_now = c.once_now;
        once_next = c.once_next;
        charged = c.charged;
      }

  module _ (v : ℕ) (rest : List ℕ) (seeds : List (ℕ × ℕ)) where
    module _ (rows : List (ℕ × Option ℕ)) (next : List ℕ)
        (not_held : (u d : ℕ) → level ≡ suc d → Linked count link v u → terminal u ≡ false → mark_over rows first u ≡ Some d → ⊥) where
      unheld : (u d : ℕ) → level ≡ suc d → Linked count link u v → terminal u ≡ false → mark_over rows first u ≡ Some d → ⊥
      unheld u d is l t m = not_held u d is (b.symmetric u v l) t m

      -- a neighbour of the first number of the queue, which is not held, comes into the queue of the next level
      pub cutting_neighbour : (rows' : List (ℕ × Option ℕ)) (next' : List ℕ) (w spent : ℕ) → Linked count link v w → first w ≡ Some
          (level + 1)
          → Awaits (level + 1) w rows rows' next next' → Cutting rows gone seeds (v ∷ rest) next spent
          → Cutting rows' gone seeds (v ∷ rest) next' spent
      cutting_neighbour rows' next' w spent l marked put c = elim put [
        | inl p ↦ subst (λ (q : List ℕ). Cutting rows' gone seeds (v ∷ rest) q spent) (sym p.2)
            (subst (λ (r : List (ℕ × Option ℕ)). Cutting r gone seeds (v ∷ rest) next spent) (sym p.1) c)
        | inr p ↦ subst (λ (q : List ℕ). Cutting rows' gone seeds (v ∷ rest) q spent) (sym p.1) (record {
          losing = losing_entered (WithRemoved (Linked count link) flips) (Linked count link) terminal start top first b.depths
              (λ u x l. inl l)
              Near rows rows' (λ k x. Contains seeds (k, x)) (λ k x. Contains seeds (k, x)) (queue_at level (v ∷ rest) next)
              (queue_at level (v ∷ rest) (next ++ w ∷ [])) level (level + 1) w p.0 marked (omega arith)
              (beside (moved_here (WithRemoved (Linked count link) flips) (Linked count link) terminal start top first b.depths
              (λ u x l. inl l)
              Near rows (λ k x. Contains seeds (k, x)) (queue_at level (v ∷ rest) next) level v (queue_first level v rest next) c.losing
              unheld)
              (inr l))
              (λ k x h. inr h) (λ k x h. h) (next_in level w (v ∷ rest) next) (next_new level w (v ∷ rest) next)
              (next_out level w (v ∷ rest) next) c.losing;
          are_gone = gone_held count rows rows' gone w p.0.bare p.0.others (level + 1) p.0.here c.are_gone;
          once_now = c.once_now;
          once_next = distinct_push next w (λ y h at. none-some (Some (level + 1)) (sym p.0.bare ∙ ap (row_of rows) (sym at) ∙
              c.losing.in_queue (level + 1) y (inr (refl, h)))) c.once_next;
          charged = looked_more count rows rows' gone w p.0.bare p.0.others gone (Some (level + 1)) before
              (spent + sum_by count (v ∷ rest) + sum_by count next) (spent + sum_by count (v ∷ rest) + sum_by count (next ++ w ∷ []))
              p.0.here
              (omega (arith, sum_by_push count next w)) c.charged;
        })
      ]

      -- the first number of the queue is not held, and loses its mark
      pub cutting_gone : (rows' : List (ℕ × Option ℕ)) (steps after : ℕ) → row_of rows' v ≡ Some None
          → ((q : ℕ) → q ≢ v → row_of rows' q ≡ row_of rows q)
          → ((w : ℕ) → level < top → terminal v ≡ false → Linked count link v w → first w ≡ Some (level + 1) → IsSome (row_of rows w))
          → after ≤ steps + 2 * count v → Cutting rows gone seeds (v ∷ rest) next steps → Cutting rows' (gone ++ v ∷ []) seeds rest next
          after
      cutting_gone rows' steps after here others followed le c =
          let row = c.losing.in_queue level v (queue_first level v rest next) in
          record {
            losing = losing_gone (WithRemoved (Linked count link) flips) (Linked count link) terminal start top first b.depths
                (λ u x l. inl l)
                Near rows (λ k x. Contains seeds (k, x)) (queue_at level (v ∷ rest) next) level v (queue_first level v rest next) c.losing
                unheld
                rows' (queue_at level rest next) here others (queue_out level v rest next) (queue_in level v rest next)
                (λ k q. elim q [
                  | inl p ↦ distinct_head v rest c.once_now v p.1 refl
                  | inr p ↦
                      let again = c.losing.in_queue k v (inr p) in
                      let same : level ≡ k = same_Some level k (same_Some (Some level) (Some k) (sym row ∙ again)) in
                      omega (arith, same, p.0)
                ]) followed;
            are_gone = gone_gone count rows rows' gone v level row here others c.are_gone;
            once_now = distinct_tail v rest c.once_now;
            once_next = c.once_next;
            charged = looked_same count rows rows' gone v level row here others (gone ++ v ∷ []) before
                (steps + sum_by count (v ∷ rest) + sum_by count next) (after + sum_by count rest + sum_by count next)
                (omega (arith, le, sum_by_push count gone v, sum_by-cons count v rest)) c.charged;
          }

    -- the first number of the queue is held, and keeps its mark
    pub cutting_held : (rows : List (ℕ × Option ℕ)) (next : List ℕ) (steps after : ℕ)
        → HasNearerMark (λ u x. Linked count link x u) terminal (mark_over rows first) v level → after ≤ steps + count v
        → Cutting rows gone seeds (v ∷ rest) next steps → Cutting rows gone seeds rest next after
    cutting_held rows next steps after h le c = record {
      losing = losing_held (WithRemoved (Linked count link) flips) (Linked count link) terminal start top first b.depths (λ u x l. inl l)
          Near
          rows (λ k x. Contains seeds (k, x)) (queue_at level (v ∷ rest) next) level v (queue_first level v rest next) c.losing
          (queue_at level rest next) (queue_out level v rest next) (queue_in level v rest next)
          (h.0, h.1, h.2, b.symmetric v h.0 h.3, h.4, h.5);
      are_gone = c.are_gone;
      once_now = distinct_tail v rest c.once_now;
      once_next = c.once_next;
      charged = record {
        numbers = c.charged.numbers;
        distinct = c.charged.distinct;
        among = c.charged.among;
        all = c.charged.all;
        bound = omega (arith, le, c.charged.bound, sum_by-cons count v rest);
      };
    }

module _ (links : ℕ → ℕ → Type 0) (terminal : ℕ → Bool) (count : ℕ → ℕ) (flips : List Flip) (start top : ℕ) (first : ℕ → Option ℕ) where
  -- at the beginning no number has a row, and the seeds wait
  pub cutting_begun : IsBeforeCut links terminal flips start top first → (seeds waiting : List (ℕ × ℕ)) (before : ℕ)
      → ((s : ℕ × ℕ) → Contains seeds s → Contains waiting s) → ((s : ℕ × ℕ) → Contains waiting s → Contains seeds s)
      → SeedsAlong flips false (MayHold terminal top first) seeds
      → IsCutting links terminal count flips start top first [] [] waiting 0 [] [] before before
  unfolding IsDistinct
  cutting_begun b seeds waiting before kept only s = record {
    losing = record {
      entered = λ k v h. let p = s.only k v (only (k, v) h) in
          (p.2.1, omega (arith, p.2.0.1), at_flip (p.0, flipped_back flips false p.0 v p.1));
      in_queue = λ k v q. elim q [ inl p ↦ absurd (no_member [] v refl p.1) | inr p ↦ absurd (no_member [] v refl p.1) ];
      rowed = λ v r e. absurd (none-some r e);
      held = λ v k e. absurd (none-some (Some k) e);
      lost = λ v k e f. absurd (none-some None e);
      firm = λ v u d e none o t f. elim o [
        | inl link ↦ inr (link, f)
        | inr flip ↦
            let bound = (sound_from (WithRemoved links flips) terminal start top first b.depths v (suc d) e).0 in
            inl (kept (suc d, v) (s.each u v (suc d) flip (
              (d, refl, record { marked = f; below = omega (arith, bound); passable = t }),
              e,
            )))
      ];
    };
    are_gone = record { all = λ v e. absurd (none-some None e); only = λ v h. absurd (omega (arith, h.1)); distinct = tt };
    once_now = tt;
    once_next = tt;
    charged = record {
      numbers = [];
      distinct = tt;
      among = All-nil (λ (x : ℕ). IsSome (row_of [] x));
      all = λ v h. absurd (true≢false
          (sym h));
      bound = omega arith;
    };
  }

  module _ (rows : List (ℕ × Option ℕ)) (gone : List ℕ) (seeds : List (ℕ × ℕ)) (level later before after : ℕ) where
    -- the same numbers are in the queue, at a level that is no lower
    cutting_moved : (now next now' next' : List ℕ) → level ≤ later
        → ((k x : ℕ) → queue_at level now next k x → queue_at later now' next' k x)
        → ((k x : ℕ) → queue_at later now' next' k x → queue_at level now next k x)
        → IsDistinct nat_eq now' → IsDistinct nat_eq next'
        → sum_by count now' + sum_by count next' ≤ sum_by count now + sum_by count next
        → IsCutting links terminal count flips start top first rows gone seeds level now next before after
        → IsCutting links terminal count flips start top first rows gone seeds later now' next' before after
    cutting_moved now next now' next' le there back once_now once_next less c = record {
      losing = record {
        entered = c.losing.entered;
        in_queue = λ k x q. c.losing.in_queue k x (back k x q);
        rowed = c.losing.rowed;
        held = λ x k row. elim (c.losing.held x k row) [ inl q ↦ inl (there k x q) | inr h ↦ inr (omega (arith, h.0, le), h.1) ];
        lost = c.losing.lost;
        firm = c.losing.firm;
      };
      are_gone = c.are_gone;
      once_now = once_now;
      once_next = once_next;
      charged = record {
        numbers = c.charged.numbers;
        distinct = c.charged.distinct;
        among = c.charged.among;
        all = c.charged.all;
        bound = omega (arith, less, c.charged.bound);
      };
    }

    -- a level begins: its queue is what was put in for it, if anything was
    pub cutting_level : (now now' : List ℕ) → now' ≡ now → level ≤ later → (now ≡ []) ⊎ (later ≡ level)
        → IsCutting links terminal count flips start top first rows gone seeds level now [] before after
        → IsCutting links terminal count flips start top first rows gone seeds later now' [] before after
    cutting_level now now' is le side c =
        subst (λ (l : List ℕ). IsCutting links terminal count flips start top first rows gone seeds later l [] before after) (sym is)
        (cutting_moved now [] now [] le
        (λ k x q. elim q [ inl p ↦ inl (p.0 ∙ sym (at x p.1), p.1) | inr p ↦ absurd (no_member [] x refl p.1) ])
        (λ k x q. elim q [ inl p ↦ inl (p.0 ∙ at x p.1, p.1) | inr p ↦ absurd (no_member [] x refl p.1) ])
        c.once_now c.once_next (omega arith) c)
      where
        at : (x : ℕ) → Contains now x → later ≡ level
        at x h = elim side [ inl none ↦ absurd (no_member now x none h) | inr same ↦ same ]

    -- a level ends: what came into the queue of the next level is looked at there
    pub cutting_next : (next : List ℕ) → later ≡ level + 1
        → IsCutting links terminal count flips start top first rows gone seeds level [] next before after
        → IsCutting links terminal count flips start top first rows gone seeds later next [] before after
    cutting_next next is c = cutting_moved [] next next [] (omega (arith, is))
        (λ k x q. elim q [ inl p ↦ absurd (no_member [] x refl p.1) | inr p ↦ inl (p.0 ∙ sym is, p.1) ])
        (λ k x q. elim q [ inl p ↦ inr (p.0 ∙ is, p.1) | inr p ↦ absurd (no_member [] x refl p.1) ])
        c.once_next c.once_now (omega arith) c

    -- the queue is handed on as a slice, and the next one is empty
    pub cutting_handed : (now slice next : List ℕ) → slice ≡ now → next ≡ []
        → IsCutting links terminal count flips start top first rows gone seeds level now [] before after
        → IsCutting links terminal count flips start top first rows gone seeds level slice next before after
    cutting_handed now slice next same none c =
        subst (λ (l : List ℕ). IsCutting links terminal count flips start top first rows gone seeds level l next before after) (sym same)
        (subst (λ (l : List ℕ). IsCutting links terminal count flips start top first rows gone seeds level now l before after) (sym none) c)
