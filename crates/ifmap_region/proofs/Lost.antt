-- What one number that is looked at changes while marks are taken away, and what is so at the end.
-- Plan: a number gets a row when it comes into the queue (`losing_passed`, `losing_entered`), and leaves the queue when
-- it is looked at: held (`losing_held`) or gone (`losing_gone`). One that is not held has no walk of that many links
-- any more (`lost_here`), so it is lost. When nothing waits, what kept its mark has it by a walk that stays
-- (`sound_left`), and seeds for what is gone make all ready to spread.
use Rattle.std.proofs.Common.{◌≡◌, ◌≢◌, ℕ, zero, suc, ◌+◌, ◌<◌, ◌≤◌, Bool, false, Option, Some, None, List, Contains, ◌⊎◌, inl, inr, refl, sym, ap, subst, ◌∙◌, arith, is_some, unwrap_or, true≢false}
use Rattle.std.specs.Prelude.{IsSome}
use Rattle.std.proofs.lemmas.Option.{same_Some, none-some}
use Rattle.std.proofs.lemmas.Bool.{cases_eq}
use Rattle.ifmap_region.specs.Links.{IsSymmetric}
use Rattle.ifmap_region.specs.Marks.{row_of, mark_over}
use Rattle.ifmap_region.specs.Walks.{Walk, begins, goes_on, AreDepths, Expands}
use Rattle.ifmap_region.specs.Near.{IsMoved}
use Rattle.ifmap_region.specs.Losing.{GetsMarkedRow, HasNearerMark, IsLosing, AreGone, Reseeds}
use Rattle.ifmap_region.specs.Spreading.{IsBound, IsReady}
use Rattle.ifmap_region.proofs.Depths.{walk_has_mark, marked_start, closed_from, mark_has_support, sound_from, walk_along}

module _ (rows : List (ℕ × Option ℕ)) (below : ℕ → Option ℕ) (v : ℕ) where
  pub over_unrowed : row_of rows v ≡ None → mark_over rows below v ≡ below v
  over_unrowed e = ap (λ (o : Option (Option ℕ)). unwrap_or o (below v)) e

  pub over_rowed : (r : Option ℕ) → row_of rows v ≡ Some r → mark_over rows below v ≡ r
  over_rowed r e = ap (λ (o : Option (Option ℕ)). unwrap_or o (below v)) e

above_zero : (n : ℕ) → 0 < n → (d : ℕ) × (n ≡ suc d)
above_zero zero lt = absurd (omega (arith, lt))
above_zero (suc d) lt = (d, refl)

module _ (old mid : ℕ → ℕ → Type 0) (terminal : ℕ → Bool) (start top : ℕ) (first : ℕ → Option ℕ)
    (depths : AreDepths old terminal start top first) (within : (u v : ℕ) → mid u v → old u v) (IsNear : ℕ → Type 0) where
  -- a number whose walk of that many links stays has its mark
  pub still_marked : (rows : List (ℕ × Option ℕ)) (seeds queued : ℕ → ℕ → Type 0) (level : ℕ)
      → IsLosing old mid terminal start IsNear first rows seeds queued level
      → (u d : ℕ) → first u ≡ Some d → Walk mid terminal start d u → mark_over rows first u ≡ Some d
  still_marked rows seeds queued level l u d f w = by (row_of rows u) refl
    where
      by : (o : Option (Option ℕ)) → row_of rows u ≡ o → mark_over rows first u ≡ Some d
      by None e = over_unrowed rows first u e ∙ f
      by (Some r) e =
          let k = l.rowed u r e in
          over_rowed rows first u r e ∙ elim k.4 [ inl none ↦ absurd (l.lost u d (e ∙ ap Some none) f w) | inr some ↦ some ∙ sym k.1 ∙ f ]

  -- a seed that has a row is passed over
  pub losing_passed : (rows : List (ℕ × Option ℕ)) (seeds seeds' queued : ℕ → ℕ → Type 0) (level v : ℕ) (r : Option ℕ) → row_of rows v ≡
      Some r
      → ((k x : ℕ) → seeds k x → ((k ≡ level) × (x ≡ v)) ⊎ seeds' k x) → ((k x : ℕ) → seeds' k x → seeds k x)
      → IsLosing old mid terminal start IsNear first rows seeds queued level → IsLosing old mid terminal start IsNear first rows seeds'
      queued level
  losing_passed rows seeds seeds' queued level v r row there back l = record {
    entered = λ k x w. l.entered k x (back k x w);
    in_queue = l.in_queue;
    rowed = l.rowed;
    held = l.held;
    lost = l.lost;
    firm = λ x u d e none o t f. elim (l.firm x u d e none o t f) [
      | inl w ↦ elim (there (suc d) x w) [
        | inl at ↦ absurd (none-some r (sym none ∙ ap (row_of rows) at.1 ∙ row))
        | inr w' ↦ inl w'
      ]
      | inr p ↦ inr p
    ];
  }

  -- a number without a row gets one, and comes into the queue
  module _ (rows rows' : List (ℕ × Option ℕ)) (seeds seeds' queued queued' : ℕ → ℕ → Type 0) (level j v : ℕ)
      (e : GetsMarkedRow j v rows rows')
      (first_here : first v ≡ Some j) (above : 0 < j) (near : IsNear v)
      (there : (k x : ℕ) → seeds k x → ((k ≡ j) × (x ≡ v)) ⊎ seeds' k x) (back : (k x : ℕ) → seeds' k x → seeds k x)
      (kept : (k x : ℕ) → queued k x → queued' k x) (new : queued' j v) (out : (k x : ℕ) → queued' k x → ((k ≡ j) × (x ≡ v)) ⊎ queued k x)
    where
      marks_entered : (q : ℕ) → mark_over rows' first q ≡ mark_over rows first q
      marks_entered q = elim (cases_eq q v) [
        | inl at ↦ ap (mark_over rows' first) at ∙ over_rowed rows' first v (Some j) e.here ∙ sym first_here ∙ sym
            (over_unrowed rows first v e.bare)
            ∙ ap (mark_over rows first) (sym at)
        | inr apart ↦ ap (λ (o : Option (Option ℕ)). unwrap_or o (first q)) (e.others q apart)
      ]

      -- a number that has a row is another
      entered_apart : (x : ℕ) (r : Option ℕ) → row_of rows x ≡ Some r → x ≢ v
      entered_apart x r row at = none-some r (sym e.bare ∙ ap (row_of rows) (sym at) ∙ row)

      row_entered : (x : ℕ) (r : Option ℕ) → row_of rows' x ≡ Some r → x ≡ v → r ≡ Some j
      row_entered x r row at = same_Some r (Some j) (sym row ∙ ap (row_of rows') at ∙ e.here)

      pub losing_entered : IsLosing old mid terminal start IsNear first rows seeds queued level
          → IsLosing old mid terminal start IsNear first rows' seeds' queued' level
      losing_entered l = record { entered = entered; in_queue = in_queue; rowed = rowed; held = held; lost = lost; firm = firm }
        where
          entered : (k x : ℕ) → seeds' k x → (first x ≡ Some k) × (0 < k) × IsNear x
          entered k x w = l.entered k x (back k x w)

          in_queue : (k x : ℕ) → queued' k x → row_of rows' x ≡ Some (Some k)
          in_queue k x q = elim (out k x q) [
            | inl at ↦ ap (row_of rows') at.1 ∙ e.here ∙ ap (λ (n : ℕ). Some (Some n)) (sym at.0)
            | inr was ↦ let row = l.in_queue k x was in e.others x (entered_apart x (Some k) row) ∙ row
          ]

          rowed : (x : ℕ) (r : Option ℕ) → row_of rows' x ≡ Some r → (k : ℕ) × (first x ≡ Some k) × (0 < k) × IsNear x × ((r ≡ None) ⊎ (r ≡
              Some k))
          rowed x r row = elim (cases_eq x v) [
            | inl at ↦ (j, ap first at ∙ first_here, above, subst IsNear (sym at) near, inr (row_entered x r row at))
            | inr apart ↦ l.rowed x r (sym (e.others x apart) ∙ row)
          ]

          held : (x k : ℕ) → row_of rows' x ≡ Some (Some k)
              → queued' k x ⊎ ((k ≤ level) × HasNearerMark mid terminal (mark_over rows' first) x k)
          held x k row = elim (cases_eq x v) [
            | inl at ↦
                let k_is : k ≡ j = same_Some k j (row_entered x (Some k) row at) in
                inl (subst (λ (n : ℕ). queued' n x) (sym k_is) (subst (λ (y : ℕ). queued' j y) (sym at) new))
            | inr apart ↦ elim (l.held x k (sym (e.others x apart) ∙ row)) [
              | inl q ↦ inl (kept k x q)
              | inr p ↦ let h = p.1 in inr (p.0, (h.0, h.1, h.2, h.3, h.4, marks_entered h.0 ∙ h.5))
            ]
          ]

          lost : (x k : ℕ) → row_of rows' x ≡ Some None → first x ≡ Some k → ¬ Walk mid terminal start k x
          lost x k row f = elim (cases_eq x v) [
            | inl at ↦ absurd (none-some j (row_entered x None row at))
            | inr apart ↦ l.lost x k (sym (e.others x apart) ∙ row) f
          ]

          firm : (x u d : ℕ) → first x ≡ Some (suc d) → row_of rows' x ≡ None → old u x → terminal u ≡ false → first u ≡ Some d
              → seeds' (suc d) x ⊎ (mid u x × (mark_over rows' first u ≡ Some d))
          firm x u d f none o t g = elim (cases_eq x v) [
            | inl at ↦ absurd (none-some (Some j) (sym none ∙ ap (row_of rows') at ∙ e.here))
            | inr apart ↦ elim (l.firm x u d f (sym (e.others x apart) ∙ none) o t g) [
              | inl w ↦ elim (there (suc d) x w) [ inl p ↦ absurd (apart p.1) | inr w' ↦ inl w' ]
              | inr p ↦ inr (p.0, marks_entered u ∙ p.1)
            ]
          ]

  module _ (rows : List (ℕ × Option ℕ)) (seeds queued : ℕ → ℕ → Type 0) (level v : ℕ) (waited : queued level v)
      (l : IsLosing old mid terminal start IsNear first rows seeds queued level) where
    -- it is held, keeps its mark, and leaves the queue
    pub losing_held : (queued' : ℕ → ℕ → Type 0) → ((k x : ℕ) → queued k x → ((k ≡ level) × (x ≡ v)) ⊎ queued' k x)
        → ((k x : ℕ) → queued' k x → queued k x) → HasNearerMark mid terminal (mark_over rows first) v level
        → IsLosing old mid terminal start IsNear first rows seeds queued' level
    losing_held queued' there back by_one = record {
      entered = l.entered;
      in_queue = λ k x q. l.in_queue k x (back k x q);
      rowed = l.rowed;
      held = λ x k row. elim (l.held x k row) [
        | inl q ↦ elim (there k x q) [
          | inl at ↦ inr (
            omega (arith, at.0),
            subst (λ (n : ℕ). HasNearerMark mid terminal (mark_over rows first) x n) (sym at.0)
                (subst (λ (y : ℕ). HasNearerMark mid terminal (mark_over rows first) y level) (sym at.1) by_one),
          )
          | inr later ↦ inl later
        ]
        | inr h ↦ inr h
      ];
      lost = l.lost;
      firm = l.firm;
    }

    row_waited : row_of rows v ≡ Some (Some level)
    row_waited = l.in_queue level v waited

    first_waited : (first v ≡ Some level) × (0 < level) × IsNear v
    first_waited =
        let s = l.rowed v (Some level) row_waited in
        let same : level ≡ s.0 = elim s.4 [ inl none ↦ absurd (none-some level (sym none)) | inr some ↦ same_Some level s.0 some ] in
        (s.1 ∙ ap Some (sym same), omega (arith, s.2, same), s.3)

    module _ (not_held : (u d : ℕ) → level ≡ suc d → mid u v → terminal u ≡ false → mark_over rows first u ≡ Some d → ⊥) where
      -- no walk of that many links ends in it any more
      pub lost_here : ¬ Walk mid terminal start level v
      lost_here w =
          let p = above_zero level first_waited.1 in
          by p.0 p.1 (subst (λ (n : ℕ). Walk mid terminal start n v) p.1 w)
        where
          by : (d : ℕ) → level ≡ suc d → Walk mid terminal start (suc d) v → ⊥
          by d is (goes_on {u = u} w t link) =
              let bound = (sound_from old terminal start top first depths v level first_waited.0).0 in
              let m = walk_has_mark old terminal start top first depths u d (omega (arith, bound, is))
              (walk_along mid old terminal start within d u w) in
              let s = closed_from old terminal start top first depths u v m.0 (record {
                marked = m.1;
                below = omega (
                  arith,
                  bound,
                  is,
                  m.2,
                );
                passable = t;
              }) (within u v link) in
              let level_is : s.0 ≡ level = same_Some s.0 level (sym s.1 ∙ first_waited.0) in
              let exact : m.0 ≡ d = omega (arith, m.2, s.2, level_is, is) in
              not_held u d is link t (still_marked rows seeds queued level l u d (m.1 ∙ ap Some exact) w)

      pub moved_here : IsMoved old mid terminal start top v
      moved_here same = lost_here ((same level).0 ((depths v level).0 first_waited.0)).walk

      -- it is not held, loses its mark and leaves the queue; the neighbours that it may have held have rows
      pub losing_gone : (rows' : List (ℕ × Option ℕ)) (queued' : ℕ → ℕ → Type 0) → row_of rows' v ≡ Some None
          → ((q : ℕ) → q ≢ v → row_of rows' q ≡ row_of rows q)
          → ((k x : ℕ) → queued k x → ((k ≡ level) × (x ≡ v)) ⊎ queued' k x) → ((k x : ℕ) → queued' k x → queued k x)
          → ((k : ℕ) → queued' k v → ⊥)
          → ((w : ℕ) → level < top → terminal v ≡ false → mid v w → first w ≡ Some (level + 1) → IsSome (row_of rows w))
          → IsLosing old mid terminal start IsNear first rows' seeds queued' level
      losing_gone rows' queued' here others there back out followed =
          record { entered = l.entered; in_queue = in_queue; rowed = rowed; held = held; lost = lost; firm = firm }
        where
          over_other : (q : ℕ) → q ≢ v → mark_over rows' first q ≡ mark_over rows first q
          over_other q apart = ap (λ (o : Option (Option ℕ)). unwrap_or o (first q)) (others q apart)

          in_queue : (k x : ℕ) → queued' k x → row_of rows' x ≡ Some (Some k)
          in_queue k x q = others x (λ at. out k (subst (λ (y : ℕ). queued' k y) at q)) ∙ l.in_queue k x (back k x q)

          rowed : (x : ℕ) (r : Option ℕ) → row_of rows' x ≡ Some r → (k : ℕ) × (first x ≡ Some k) × (0 < k) × IsNear x × ((r ≡ None) ⊎ (r ≡
              Some k))
          rowed x r row = elim (cases_eq x v) [
            | inl at ↦ let w = first_waited in (
              level,
              ap first at ∙ w.0,
              w.1,
              subst IsNear (sym at) w.2,
              inl (same_Some r None (sym row ∙ ap (row_of rows') at ∙ here)),
            )
            | inr apart ↦ l.rowed x r (sym (others x apart) ∙ row)
          ]

          held : (x k : ℕ) → row_of rows' x ≡ Some (Some k)
              → queued' k x ⊎ ((k ≤ level) × HasNearerMark mid terminal (mark_over rows' first) x k)
          held x k row = elim (cases_eq x v) [
            | inl at ↦ absurd (none-some k (same_Some None (Some k) (sym here ∙ ap (row_of rows') (sym at) ∙ row)))
            | inr apart ↦ elim (l.held x k (sym (others x apart) ∙ row)) [
              | inl q ↦ elim (there k x q) [ inl p ↦ absurd (apart p.1) | inr q' ↦ inl q' ]
              | inr p ↦ let h = p.1 in inr (
                p.0,
                (
                  h.0,
                  h.1,
                  h.2,
                  h.3,
                  h.4,
                  over_other h.0 (λ at.
                      let level_is : level ≡ h.1 = same_Some level h.1 (sym (over_rowed rows first v (Some level) row_waited) ∙ ap
                      (mark_over rows
                      first) (sym at) ∙ h.5) in
                      absurd (omega (arith, level_is, p.0, h.2))) ∙ h.5,
                ),
              )
            ]
          ]

          lost : (x k : ℕ) → row_of rows' x ≡ Some None → first x ≡ Some k → ¬ Walk mid terminal start k x
          lost x k row f = elim (cases_eq x v) [
            | inl at ↦ λ w. let level_is : level ≡ k = same_Some level k (sym first_waited.0 ∙ ap first (sym at) ∙ f) in
                lost_here (subst (λ (n : ℕ). Walk mid terminal start n v) (sym level_is) (subst (λ (y : ℕ). Walk mid terminal start k y)
                at w))
            | inr apart ↦ l.lost x k (sym (others x apart) ∙ row) f
          ]

          firm : (x u d : ℕ) → first x ≡ Some (suc d) → row_of rows' x ≡ None → old u x → terminal u ≡ false → first u ≡ Some d
              → seeds (suc d) x ⊎ (mid u x × (mark_over rows' first u ≡ Some d))
          firm x u d f none o t g = elim (cases_eq x v) [
            | inl at ↦ absurd (none-some None (sym none ∙ ap (row_of rows') at ∙ here))
            | inr apart ↦ elim (l.firm x u d f (sym (others x apart) ∙ none) o t g) [
              | inl w ↦ inl w
              | inr p ↦ elim (cases_eq u v) [
                | inl at ↦
                    let level_is : level ≡ d = same_Some level d (sym first_waited.0 ∙ ap first (sym at) ∙ g) in
                    let bound = (sound_from old terminal start top first depths x (suc d) f).0 in
                    let next : level + 1 ≡ suc d = omega (arith, level_is) in
                    let row = followed x (omega (arith, bound, level_is)) (ap terminal (sym at) ∙ t)
                    (subst (λ (y : ℕ). mid y x) at p.0) (f ∙ ap Some (sym next)) in
                    absurd (true≢false (sym row ∙ ap is_some (sym (others x apart) ∙ none)))
                | inr other ↦ inr (p.0, over_other u other ∙ p.1)
              ]
            ]
          ]

  -- nothing waits any more: the marks that are left are depths over the links that stay
  module _ (rows : List (ℕ × Option ℕ)) (seeds queued : ℕ → ℕ → Type 0) (level : ℕ) (no_seed : (k x : ℕ) → seeds k x → ⊥)
      (none_queued : (k x : ℕ) → queued k x → ⊥) (l : IsLosing old mid terminal start IsNear first rows seeds queued level) where
    first_of_over : (v k : ℕ) → mark_over rows first v ≡ Some k → first v ≡ Some k
    first_of_over v k e = by (row_of rows v) refl
      where
        by : (o : Option (Option ℕ)) → row_of rows v ≡ o → first v ≡ Some k
        by None u = sym (over_unrowed rows first v u) ∙ e
        by (Some r) u =
            let s = l.rowed v r u in
            let r_is : r ≡ Some k = sym (over_rowed rows first v r u) ∙ e in
            elim s.4 [ inl none ↦ absurd (none-some k (sym none ∙ r_is)) | inr some ↦ s.1 ∙ sym some ∙ r_is ]

    pub sound_left : (k v : ℕ) → mark_over rows first v ≡ Some k → Walk mid terminal start k v
    sound_left zero v e = by ((depths v 0).0 (first_of_over v 0 e)).walk
      where
        by : Walk old terminal start zero v → Walk mid terminal start zero v
        by (begins at) = begins at
    sound_left (suc d) v e = go (sound_left d) (row_of rows v) refl
      where
        go : ((u : ℕ) → mark_over rows first u ≡ Some d → Walk mid terminal start d u) → (o : Option (Option ℕ)) → row_of rows v ≡ o
            → Walk mid terminal start (suc d) v
        go shorter None u =
            let s = mark_has_support old terminal start top first depths v d (first_of_over v (suc d) e) in
            elim (l.firm v s.0 d (first_of_over v (suc d) e) u s.1 s.2 s.3) [
              | inl w ↦ absurd (no_seed (suc d) v w)
              | inr p ↦ goes_on (shorter s.0 p.1) s.2 p.0
            ]
        go shorter (Some r) u =
            let r_is : r ≡ Some (suc d) = sym (over_rowed rows first v r u) ∙ e in
            let h : HasNearerMark mid terminal (mark_over rows first) v (suc d) = elim (l.held v (suc d) (u ∙ ap Some r_is)) [
              | inl q ↦ absurd (none_queued (suc d) v q)
              | inr p ↦ p.1
            ] in
            let same : h.1 ≡ d = omega (arith, h.2) in
            goes_on (shorter h.0 (h.5 ∙ ap Some same)) h.4 h.3

    pub ready_left : (gone : List ℕ) (found : List (ℕ × ℕ)) → AreGone rows gone → IsSymmetric mid
        → Reseeds mid terminal top (mark_over rows first) gone found
        → IsReady mid terminal start top (mark_over rows first) (λ k v. Contains found (k, v))
    ready_left gone found g sym_mid r = record { sound = sound; walks = walks; begun = begun; along = along }
      where
        sound : (v k : ℕ) → mark_over rows first v ≡ Some k → (k ≤ top) × Walk mid terminal start k v
        sound v k e = ((sound_from old terminal start top first depths v k (first_of_over v k e)).0, sound_left k v e)

        walks : (v k : ℕ) → Contains found (k, v) → (k ≤ top) × Walk mid terminal start k v
        walks v k h =
            let p = (r.only k v h).1 in (
              omega (arith, p.3.below, p.4),
              subst (λ (n : ℕ). Walk mid terminal start n v) (sym p.4) (goes_on (sound_left p.1 p.0
                  p.3.marked) p.3.passable (sym_mid v p.0 p.2)),
            )

        start_row : (o : Option (Option ℕ)) → row_of rows start ≡ o → mark_over rows first start ≡ Some 0
        start_row None u = over_unrowed rows first start u ∙ marked_start old terminal start top first depths
        start_row (Some x) u =
            let s = l.rowed start x u in
            let zero_is : s.0 ≡ 0 = same_Some s.0 0 (sym s.1 ∙ marked_start old terminal start top first depths) in
            absurd (omega (arith, s.2, zero_is))

        begun : IsBound (mark_over rows first) (λ k v. Contains found (k, v)) start 0
        begun = (0, omega arith, inl (start_row (row_of rows start) refl))

        along : (x y d : ℕ) → Expands terminal top (mark_over rows first) x d → mid x y
            → IsBound (mark_over rows first) (λ k v. Contains found (k, v)) y (suc d)
        along x y d e link = by (row_of rows y) refl
          where
            s : (j : ℕ) × (first y ≡ Some j) × (j ≤ suc d)
            s = closed_from old terminal start top first depths x y d (record {
              marked = first_of_over x d e.marked;
              below = e.below;
              passable = e.passable;
            }) (within x y link)

            by : (o : Option (Option ℕ)) → row_of rows y ≡ o → IsBound (mark_over rows first) (λ k v. Contains found (k, v)) y (suc d)
            by None u = (s.0, s.2, inl (over_unrowed rows first y u ∙ s.1))
            by (Some None) u = let q = r.each y x d (g.all y u) (sym_mid x y link) e in (q.0, q.1, inr q.2)
            by (Some (Some j)) u =
                let t = l.rowed y (Some j) u in
                let j_is : Some j ≡ first y = elim t.4 [ inl none ↦ absurd (none-some j (sym none)) | inr some ↦ some ∙ sym t.1 ] in
                (s.0, s.2, inl (over_rowed rows first y (Some j) u ∙ j_is ∙ s.1))
