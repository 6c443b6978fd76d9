-- When marks are the depths: they are sound, each standing for a walk, and closed along links.
use Rattle.std.proofs.Common.{◌≡◌, ℕ, zero, suc, ◌<◌, ◌≤◌, Bool, false, Option, Some, None, inl, inr, refl, sym, ap, subst, ◌∙◌, arith}
use Rattle.std.proofs.lemmas.Bool.{cases_lt}
use Rattle.std.proofs.lemmas.Option.{same_Some, none-some}
use Rattle.ifmap_region.specs.Walks.{Walk, begins, goes_on, HasDepth, AreDepths, Expands}

module _ (links : ℕ → ℕ → Type 0) (terminal : ℕ → Bool) (start top : ℕ) where
  -- each mark stands for a walk
  abbrev pub IsSound : (ℕ → Option ℕ) → Type 0
  IsSound m = (v k : ℕ) → m v ≡ Some k → (k ≤ top) × Walk links terminal start k v

  -- a neighbour of a number that expands has a mark, and it is greater by one at most
  abbrev pub IsClosed : (ℕ → Option ℕ) → Type 0
  IsClosed m = (m start ≡ Some 0) × ((x y d : ℕ) → Expands terminal top m x d → links x y → (j : ℕ) × (m y ≡ Some j) × (j ≤ suc d))

  pub marked_from_closed : (m : ℕ → Option ℕ) → IsClosed m → (k v : ℕ) → Walk links terminal start k v → k ≤ top
      → (j : ℕ) × (m v ≡ Some j) × (j ≤ k)
  marked_from_closed m closed zero v (begins e) within = (0, subst (λ (x : ℕ). m x ≡ Some 0) (sym e) closed.0, omega arith)
  marked_from_closed m closed (suc k) v (goes_on {u = u} w t l) within =
      let before = marked_from_closed m closed k u w (omega arith) in
      let here = closed.1 u v before.0 (record { marked = before.1; below = omega (arith, before.2, within); passable = t }) l in
      (here.0, here.1, omega (arith, here.2, before.2))

  pub depths_from : (m : ℕ → Option ℕ) → IsSound m → IsClosed m → AreDepths links terminal start top m
  depths_from m sound closed v k = (there, back)
    where
      least : m v ≡ Some k → (j : ℕ) → Walk links terminal start j v → k ≤ j
      least e j w = elim (cases_lt j k) [
        | inl lt ↦ let s = sound v k e in
            let h = marked_from_closed m closed j v w (omega (arith, s.0, lt)) in
            let same : h.0 ≡ k = same_Some _ _ (sym h.1 ∙ e) in
            omega (arith, h.2, same, lt)
        | inr ge ↦ ge
      ]

      there : m v ≡ Some k → HasDepth links terminal start top v k
      there e = let s = sound v k e in record { within = s.0; walk = s.1; least = least e }

      back : HasDepth links terminal start top v k → m v ≡ Some k
      back h =
          let f = marked_from_closed m closed k v h.walk h.within in
          let g = h.least f.0 (sound v f.0 f.1).1 in
          let same : f.0 ≡ k = omega (arith, f.2, g) in
          f.1 ∙ ap Some same

  -- where no number is the depth, no walk within the bound ends
  pub no_walk : (v : ℕ) → ((n : ℕ) → HasDepth links terminal start top v n → ⊥) → (bound k : ℕ) → k < bound → k ≤ top
      → Walk links terminal start k v → ⊥
  no_walk v none zero k lt within w = absurd (omega (arith, lt))
  no_walk v none (suc bound) k lt within w =
      none k (record {
        within = within;
        walk = w;
        least = λ j shorter. elim (cases_lt j k) [
          | inl below ↦ absurd (no_walk v none bound j (omega (arith, lt, below)) (omega (arith, within, below)) shorter)
          | inr ge ↦ ge
        ];
      })

  module _ (m : ℕ → Option ℕ) (depths : AreDepths links terminal start top m) where
    pub sound_from : IsSound m
    sound_from v k e = let h = (depths v k).0 e in (h.within, h.walk)

    -- a walk within the bound ends in a number with a mark, which is no greater
    pub walk_has_mark : (v k : ℕ) → k ≤ top → Walk links terminal start k v → (j : ℕ) × (m v ≡ Some j) × (j ≤ k)
    walk_has_mark v k within w = by (m v) refl
      where
        by : (o : Option ℕ) → m v ≡ o → (j : ℕ) × (m v ≡ Some j) × (j ≤ k)
        by None e = absurd (no_walk v (λ n h. none-some n (sym e ∙ (depths v n).1 h)) (suc k) k (omega arith) within w)
        by (Some j) e = (j, e, ((depths v j).0 e).least k w)

    pub marked_start : m start ≡ Some 0
    marked_start = (depths start 0).1 (record { within = omega arith; walk = begins refl; least = λ j w. omega arith })

    pub closed_from : (x y d : ℕ) → Expands terminal top m x d → links x y → (j : ℕ) × (m y ≡ Some j) × (j ≤ suc d)
    closed_from x y d e l = walk_has_mark y (suc d) (omega (arith, e.below)) (goes_on ((depths x d).0 e.marked).walk e.passable l)

    -- a number at some depth has a neighbour that is nearer by one and not terminal
    pub mark_has_support : (v d : ℕ) → m v ≡ Some (suc d) → (u : ℕ) × links u v × (terminal u ≡ false) × (m u ≡ Some d)
    mark_has_support v d e = by (HasDepth.walk ((depths v (suc d)).0 e))
      where
        by : Walk links terminal start (suc d) v → (u : ℕ) × links u v × (terminal u ≡ false) × (m u ≡ Some d)
        by (goes_on {u = u} w t l) =
            let h = (depths v (suc d)).0 e in
            let f = walk_has_mark u d (omega (arith, h.within)) w in
            let g = h.least (suc f.0) (goes_on (sound_from u f.0 f.1).1 t l) in
            let same : f.0 ≡ d = omega (arith, f.2, g) in
            (u, l, t, f.1 ∙ ap Some same)

-- more links, more walks
pub walk_along : (links others : ℕ → ℕ → Type 0) (terminal : ℕ → Bool) (start : ℕ) → ((u v : ℕ) → links u v → others u v)
    → (k v : ℕ) → Walk links terminal start k v → Walk others terminal start k v
walk_along links others terminal start f zero v (begins e) = begins e
walk_along links others terminal start f (suc k) v (goes_on {u = u} w t l) = goes_on (walk_along links others terminal start f k u w) t
    (f u v l)

module _ (links others : ℕ → ℕ → Type 0) (terminal : ℕ → Bool) (start top : ℕ)
    (there : (u v : ℕ) → links u v → others u v) (back : (u v : ℕ) → others u v → links u v) where
  -- the same links give the same depths
  pub depth_along : (v k : ℕ) → HasDepth links terminal start top v k → HasDepth others terminal start top v k
  depth_along v k h = record {
    within = h.within;
    walk = walk_along links others terminal start there k v h.walk;
    least = λ j w. h.least j (walk_along others links terminal start back j v w);
  }

pub depths_along : (links others : ℕ → ℕ → Type 0) (terminal : ℕ → Bool) (start top : ℕ)
    → ((u v : ℕ) → links u v → others u v) → ((u v : ℕ) → others u v → links u v)
    → (m : ℕ → Option ℕ) → AreDepths links terminal start top m → AreDepths others terminal start top m
depths_along links others terminal start top there back m depths v k = (
  λ e. depth_along links others terminal start top there back v k ((depths v k).0 e),
  λ h. (depths v k).1 (depth_along others links terminal start top back there v k h),
)
