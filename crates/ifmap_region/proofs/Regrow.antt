-- What is found again after a cut, and what is found by added links.
-- Plan: seeds for what is gone (`reseeds_more`); after a cut only what is gone can be improved, and the bound of all
-- four scans (`spent_cut`); marks that are depths without the added links are ready to fall along these
-- (`ready_grown`), and only numbers whose depth differs fall (`improved_moved`); the least level of a neighbour.
use Rattle.std.proofs.Common.{◌≡◌, ℕ, suc, ◌+◌, ◌<◌, ◌≤◌, Bool, true, false, Option, Some, None, List, [], ◌∷◌, ◌++◌, Contains, sum_by, is_some, ◌⊎◌, inl, inr, refl, sym, ap, subst, ◌∙◌, arith, true≢false}
use Rattle.std.specs.Prelude.{MatchOption, IfSome, IsSome}
use Rattle.std.proofs.lemmas.Option.{same_Some, none-some}
use Rattle.std.proofs.lemmas.Bool.{cases_eq, cases_lt, true≢false}
use Rattle.std.proofs.lemmas.List.Elements.{Contains-append_left, Contains-append_right, Contains-append_cases, Contains-push, Contains-push_cases, All-weaker, All-contains}
use Rattle.ifmap_lemmas.specs.Distinct.{contains_one, no_member, sum_within}
use Rattle.ifmap_region.specs.declared.flips.Flip.{Flip}
use Rattle.ifmap_region.specs.Bounds.{IsWithin}
use Rattle.ifmap_region.specs.Flips.{Joins, IsFlipped, WithRemoved, Mid}
use Rattle.ifmap_region.specs.Marks.{row_of, mark_over}
use Rattle.ifmap_region.specs.Near.{NearOneWay, IsMoved, touched}
use Rattle.ifmap_region.specs.Seeds.{IsNext, Lowers, SeedsAlong}
use Rattle.ifmap_region.specs.Spreading.{queue_at, IsBound, IsReady, Improves}
use Rattle.ifmap_region.specs.Losing.{Reseeds, IsBeforeCut, IsCutting}
use Rattle.ifmap_region.specs.Walks.{Walk, goes_on, AreDepths, Expands}
use Rattle.ifmap_region.proofs.Depths.{walk_has_mark, marked_start, closed_from, sound_from, walk_along, no_walk}
use Rattle.ifmap_region.proofs.Lost.{ready_left, over_unrowed, over_rowed}
use Rattle.ifmap_lemmas.specs.Options.{some_is}

-- seeds of one number more that is gone
module _ (links : ℕ → ℕ → Type 0) (terminal : ℕ → Bool) (top : ℕ) (mark : ℕ → Option ℕ) (gone : List ℕ) (v : ℕ) (seeds after : List (ℕ ×
    ℕ)) where
  pub reseeds_more : (level : Option ℕ) → MatchOption level (after ≡ seeds) (λ k. after ≡ seeds ++ (k, v) ∷ [])
      → IfSome level (λ k. (u : ℕ) × links v u × IsNext terminal top mark u k)
      → ((u k : ℕ) → links v u → IsNext terminal top mark u k → (m : ℕ) × (m ≤ k) × (level ≡ Some m))
      → Reseeds links terminal top mark gone seeds → Reseeds links terminal top mark (gone ++ v ∷ []) after
  reseeds_more None offered only least r = record {
    only = λ k x h. let p = r.only k x (subst (λ (l : List (ℕ × ℕ)). Contains l (k, x)) offered h) in (
      Contains-append_left gone (v ∷ [])
          x p.0,
      p.1,
    );
    each = λ x u d g l e. elim (Contains-push_cases gone v x g) [
      | inl old ↦ let q = r.each x u d old l e in (q.0, q.1, subst (λ (s : List (ℕ × ℕ)). Contains s (q.0, x)) (sym offered) q.2)
      | inr at ↦ let m = least u (suc d) (subst (λ (y : ℕ). links y u) (sym at) l) (d, refl, e) in absurd (none-some m.0 m.2)
    ];
  }
  reseeds_more (Some j) offered only least r = record {
    only = λ k x h. elim (Contains-push_cases seeds (j, v) (k, x) (subst (λ (l : List (ℕ × ℕ)). Contains l (k, x)) offered h)) [
      | inl old ↦ let p = r.only k x old in (Contains-append_left gone (v ∷ []) x p.0, p.1)
      | inr p ↦
          let x_is : v ≡ x = ap (λ (q : ℕ × ℕ). q.1) p in
          let k_is : j ≡ k = ap (λ (q : ℕ × ℕ). q.0) p in (
            subst (λ (y : ℕ). Contains (gone ++ v ∷ []) y) x_is (Contains-push gone v),
            (only.0, only.2.0, subst (λ (y : ℕ). links y only.0) x_is only.1, only.2.2, sym k_is ∙ only.2.1),
          )
    ];
    each = λ x u d g l e. elim (Contains-push_cases gone v x g) [
      | inl old ↦ let q = r.each x u d old l e in (
        q.0,
        q.1,
        subst (λ (s : List (ℕ × ℕ)). Contains s (q.0, x)) (sym offered)
            (Contains-append_left seeds ((j, v) ∷ []) (q.0, x) q.2),
      )
      | inr at ↦
          let m = least u (suc d) (subst (λ (y : ℕ). links y u) (sym at) l) (d, refl, e) in (
            m.0,
            m.1,
            subst (λ (s : List (ℕ × ℕ)). Contains s (m.0, x)) (sym offered)
                (subst (λ (i : ℕ). Contains (seeds ++ (j, v) ∷ []) (i, x)) (same_Some j m.0 m.2) (subst (λ (y : ℕ). Contains (seeds ++
                (j, v) ∷ []) (j, y)) at (Contains-push seeds (j, v)))),
          )
    ];
  }

  pub reseeds_none : Reseeds links terminal top mark [] []
  reseeds_none = record { only = λ k x h. absurd (omega (arith, h.1)); each = λ x u d g l e. absurd (omega (arith, g.1)) }

-- after a cut, only what is gone can be improved, and the steps of all four scans are charged to what was looked at
module _ (links : ℕ → ℕ → Type 0) (terminal : ℕ → Bool) (count : ℕ → ℕ) (flips : List Flip) (start top : ℕ) (first : ℕ → Option ℕ)
    (b : IsBeforeCut links terminal flips start top first)
    (rows : List (ℕ × Option ℕ)) (gone : List ℕ) (level before lost_at : ℕ)
    (c : IsCutting links terminal count flips start top first rows gone [] level [] [] before lost_at) where
  pub ready_again : (seeds : List (ℕ × ℕ)) → Reseeds links terminal top (mark_over rows first) gone seeds
      → IsReady links terminal start top (mark_over rows first) (λ k v. Contains seeds (k, v))
  ready_again seeds r =
      ready_left (WithRemoved links flips) links terminal start top first b.depths (λ u v l. inl l)
      (NearOneWay flips false (WithRemoved links flips) links terminal start top) rows (λ k v. Contains [] (k, v)) (queue_at level [] [])
      level (λ k x h. no_member [] (k, x) refl h) (λ k x q. elim q [ inl p ↦ no_member [] x refl p.1 | inr p ↦ no_member [] x refl p.1 ])
      c.losing gone seeds
      c.are_gone b.symmetric r

  improved_gone : (v : ℕ) → Improves links terminal start top (mark_over rows first) v → Contains gone v
  improved_gone v i = by (row_of rows v) refl
    where
      old : (j : ℕ) × (first v ≡ Some j) × (j ≤ i.links_of_it)
      old = walk_has_mark (WithRemoved links flips) terminal start top first b.depths v i.links_of_it i.within
          (walk_along links (WithRemoved links flips) terminal start (λ u w l. inl l) i.links_of_it v i.walk)

      by : (o : Option (Option ℕ)) → row_of rows v ≡ o → Contains gone v
      by None e = let f = i.fewer old.0 (over_unrowed rows first v e ∙ old.1) in absurd (omega (arith, f, old.2))
      by (Some None) e = c.are_gone.all v e
      by (Some (Some k)) e =
          let s = c.losing.rowed v (Some k) e in
          let k_is : Some k ≡ Some s.0 = elim s.4 [ inl none ↦ absurd (none-some k (sym none)) | inr some ↦ some ] in
          let f = i.fewer old.0 (over_rowed rows first v (Some k) e ∙ k_is ∙ sym s.1 ∙ old.1) in
          absurd (omega (arith, f, old.2))

  pub spent_cut : (reseeded after : ℕ) → reseeded ≤ lost_at + sum_by count gone
      → IsWithin count (Improves links terminal start top (mark_over rows first)) 1 reseeded after
      → IsWithin count (NearOneWay flips false (WithRemoved links flips) links terminal start top) 4 before after
  spent_cut reseeded after le s =
      let found = sum_within count s.numbers gone s.distinct (λ x h. improved_gone x (All-contains (Improves links terminal start top
      (mark_over rows first)) s.numbers x s.among h)) in
      let lost = sum_within count gone c.charged.numbers c.are_gone.distinct (λ x h. c.charged.all x (ap is_some (c.are_gone.only x h)))
      in
      record {
        numbers = c.charged.numbers;
        distinct = c.charged.distinct;
        among = All-weaker (λ (x : ℕ). IsSome (row_of rows x)) (NearOneWay flips false (WithRemoved links flips) links terminal start top)
            (λ x h. let r = some_is (row_of rows x) h in (c.losing.rowed x r.0 r.1).3) c.charged.numbers c.charged.among;
        bound = omega (arith, le, s.bound, c.charged.bound, found, lost);
      }

  pub spent_reseed : (after : ℕ) → after ≤ lost_at + sum_by count gone
      → IsWithin count (NearOneWay flips false (WithRemoved links flips) links terminal start top) 4 before after
  spent_reseed after le =
      let lost = sum_within count gone c.charged.numbers c.are_gone.distinct (λ x h. c.charged.all x (ap is_some (c.are_gone.only x h)))
      in
      record {
        numbers = c.charged.numbers;
        distinct = c.charged.distinct;
        among = All-weaker (λ (x : ℕ). IsSome (row_of rows x)) (NearOneWay flips false (WithRemoved links flips) links terminal start top)
            (λ x h. let r = some_is (row_of rows x) h in (c.losing.rowed x r.0 r.1).3) c.charged.numbers c.charged.among;
        bound = omega (arith, le, c.charged.bound, lost);
      }

-- whether some flip joins two numbers can be told
pub flipped_or_not : (flips : List Flip) (added : Bool) (v w : ℕ) → IsFlipped flips added v w ⊎ (IsFlipped flips added v w → ⊥)
flipped_or_not [] added v w = inr (λ h. absurd (omega (arith, h.1.1)))
flipped_or_not (f ∷ fs) added v w = elim (flipped_or_not fs added v w) [
  | inl h ↦ inl (h.0, Contains-append_right (f ∷ []) fs h.0 h.1, h.2, h.3)
  | inr none_later ↦ elim (first_flip f added v w) [
    | inl h ↦ inl (f, (0, omega arith, refl), h.0, h.1)
    | inr other ↦ inr (λ h. elim (Contains-append_cases (f ∷ []) fs h.0 h.1) [
      | inl one ↦ let e = contains_one f h.0 one in other (
        ap (λ (g : Flip). g.added) e ∙ h.2,
        subst (λ (g : Flip). Joins g v w) (sym e)
            h.3,
      )
      | inr later ↦ none_later (h.0, later, h.2, h.3)
    ])
  ]
]
  where
    same_kind : (a b : Bool) → (a ≡ b) ⊎ (a ≡ b → ⊥)
    same_kind true true = inl refl
    same_kind true false = inr true≢false
    same_kind false true = inr (λ e. true≢false (sym e))
    same_kind false false = inl refl

    first_join : (f : Flip) (v w : ℕ) → Joins f v w ⊎ (Joins f v w → ⊥)
    first_join f v w = elim (cases_eq f.a v) [
      | inl av ↦ elim (cases_eq f.b w) [
        | inl bw ↦ inl (inl (av, bw))
        | inr nbw ↦ elim (cases_eq f.a w) [
          | inl aw ↦ elim (cases_eq f.b v) [
            | inl bv ↦ inl (inr (aw, bv))
            | inr nbv ↦ inr (λ j. elim j [ inl p ↦ nbw p.1 | inr p ↦ nbv p.1 ])
          ]
          | inr naw ↦ inr (λ j. elim j [ inl p ↦ nbw p.1 | inr p ↦ naw p.0 ])
        ]
      ]
      | inr nav ↦ elim (cases_eq f.a w) [
        | inl aw ↦ elim (cases_eq f.b v) [
          | inl bv ↦ inl (inr (aw, bv))
          | inr nbv ↦ inr (λ j. elim j [ inl p ↦ nav p.0 | inr p ↦ nbv p.1 ])
        ]
        | inr naw ↦ inr (λ j. elim j [ inl p ↦ nav p.0 | inr p ↦ naw p.0 ])
      ]
    ]

    first_flip : (f : Flip) (added : Bool) (v w : ℕ) → ((f.added ≡ added) × Joins f v w) ⊎ (((f.added ≡ added) × Joins f v w) → ⊥)
    first_flip f added v w = elim (same_kind f.added added) [
      | inl k ↦ elim (first_join f v w) [ inl j ↦ inl (k, j) | inr nj ↦ inr (λ p. nj p.1) ]
      | inr nk ↦ inr (λ p. nk p.0)
    ]

-- marks that are depths without the added links are ready to fall along these
module _ (links : ℕ → ℕ → Type 0) (terminal : ℕ → Bool) (flips : List Flip) (start top : ℕ) (m : ℕ → Option ℕ)
    (added : (v w : ℕ) → IsFlipped flips true v w → links v w) (depths : AreDepths (Mid links flips) terminal start top m) where
  new_walk : (k v : ℕ) → Walk (Mid links flips) terminal start k v → Walk links terminal start k v
  new_walk = walk_along (Mid links flips) links terminal start (λ u v l. l.0)

  pub ready_grown : (seeds : List (ℕ × ℕ)) → SeedsAlong flips true (Lowers terminal top m) seeds
      → IsReady links terminal start top m (λ k v. Contains seeds (k, v))
  ready_grown seeds s = record {
    sound = sound;
    walks = walks;
    begun = (
      0,
      omega arith,
      inl (marked_start (Mid links flips) terminal
          start top m depths),
    );
    along = along;
  }
    where
      sound : (v k : ℕ) → m v ≡ Some k → (k ≤ top) × Walk links terminal start k v
      sound v k e = let p = sound_from (Mid links flips) terminal start top m depths v k e in (p.0, new_walk k v p.1)

      walks : (v k : ℕ) → Contains seeds (k, v) → (k ≤ top) × Walk links terminal start k v
      walks v k h =
          let p = s.only k v h in
          let n = p.2.0 in
          let w = sound p.0 n.0 n.2.marked in (
            omega (arith, n.1, n.2.below),
            subst (λ (j : ℕ). Walk links terminal start j v) (sym n.1) (goes_on w.1 n.2.passable (added p.0
                v p.1)),
          )

      lowered : (x y d : ℕ) → Expands terminal top m x d → IsFlipped flips true x y → (o : Option ℕ) → m y ≡ o
          → IsBound m (λ k v. Contains seeds (k, v)) y (suc d)
      lowered x y d e f None u = (suc d, omega arith, inr (s.each x y (suc d) f ((d, refl, e), λ j g. absurd (none-some j (sym u ∙ g)))))
      lowered x y d e f (Some j) u = elim (cases_lt (suc d) j) [
        | inl lt ↦ (
          suc d,
          omega arith,
          inr (s.each x y (suc d) f (
            (d, refl, e),
            λ i g. let same : j ≡ i = same_Some j i (sym u ∙ g) in
                omega (arith, lt, same),
          )),
        )
        | inr ge ↦ (j, ge, inl u)
      ]

      along : (x y d : ℕ) → Expands terminal top m x d → links x y → IsBound m (λ k v. Contains seeds (k, v)) y (suc d)
      along x y d e l = elim (flipped_or_not flips true x y) [
        | inl f ↦ lowered x y d e f (m y) refl
        | inr unflipped ↦ let c = closed_from (Mid links flips) terminal start top m depths x y d e (l, unflipped) in (c.0, c.2, inl c.1)
      ]

  pub improved_moved : (v : ℕ) → Improves links terminal start top m v → IsMoved (Mid links flips) links terminal start top v
  improved_moved v i same = by (m v) refl
    where
      by : (o : Option ℕ) → m v ≡ o → ⊥
      by None e = no_walk links terminal start top v (λ n h. none-some n (sym e ∙ (depths v n).1 ((same n).1 h))) (suc i.links_of_it)
          i.links_of_it (omega arith) i.within i.walk
      by (Some j) e =
          let f = i.fewer j e in
          let g = ((same j).0 ((depths v j).0 e)).least i.links_of_it i.walk in
          absurd (omega (arith, f, g))

  pub spent_grown : (count : ℕ → ℕ) (before after : ℕ) → IsWithin count (Improves links terminal start top m) 1 before after
      → IsWithin count (NearOneWay flips true (Mid links flips) links terminal start top) 1 before after
  spent_grown count before after s = record {
    numbers = s.numbers;
    distinct = s.distinct;
    among = All-weaker (Improves links terminal start top m) (NearOneWay flips true (Mid links flips) links terminal start top) (λ v i.
        touched (improved_moved v i)) s.numbers s.among;
    bound = s.bound;
  }

-- the lesser of the least so far and the next level
module _ (link : ℕ → Option ℕ) (i : ℕ) (IsGiven : ℕ → ℕ → Type 0) (least : Option ℕ)
    (so_far : (j v k : ℕ) → j < i → link j ≡ Some v → IsGiven v k → (m : ℕ) × (m ≤ k) × (least ≡ Some m)) where
  pub least_unmatched : link i ≡ None → (j v k : ℕ) → j < i + 1 → link j ≡ Some v → IsGiven v k → (m : ℕ) × (m ≤ k) × (least ≡ Some m)
  least_unmatched none j v k lt e g = elim (cases_lt j i) [
    | inl below ↦ so_far j v k below e g
    | inr from ↦ let at : j ≡ i = omega (arith, lt, from) in absurd (none-some v (sym none ∙ ap link (sym at) ∙ e))
  ]

  pub least_more : (next r : Option ℕ) (u : ℕ) → link i ≡ Some u → ((k : ℕ) → IsGiven u k → next ≡ Some k)
      → ((k : ℕ) → least ≡ Some k → (m : ℕ) × (m ≤ k) × (r ≡ Some m)) → ((k : ℕ) → next ≡ Some k → (m : ℕ) × (m ≤ k) × (r ≡ Some m))
      → (j v k : ℕ) → j < i + 1 → link j ≡ Some v → IsGiven v k → (m : ℕ) × (m ≤ k) × (r ≡ Some m)
  least_more next r u here given first second j v k lt e g = elim (cases_lt j i) [
    | inl below ↦ let p = so_far j v k below e g in let q = first p.0 p.2 in (q.0, omega (arith, q.1, p.1), q.2)
    | inr from ↦
        let at : j ≡ i = omega (arith, lt, from) in
        let same : v ≡ u = same_Some v u (sym e ∙ ap link at ∙ here) in
        second k (given k (subst (λ (x : ℕ). IsGiven x k) same g))
  ]

pub lesser_only : (P : ℕ → Type 0) (a b r : Option ℕ) → (r ≡ a) ⊎ (r ≡ b) → IfSome a P → IfSome b P → IfSome r P
lesser_only P a b r one p q = elim one [
  | inl e ↦ subst (λ (o : Option ℕ). IfSome o P) (sym e) p
  | inr e ↦ subst (λ (o : Option ℕ). IfSome o P) (sym e) q
]
