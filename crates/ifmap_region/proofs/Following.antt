-- The neighbours of a number that come into the queue, one by one.
use Rattle.std.proofs.Common.{◌≡◌, ℕ, ◌+◌, ◌<◌, Option, Some, List, is_some, inl, inr, sym, ap, ◌∙◌, arith, unwrap_or}
use Rattle.std.specs.Prelude.{IsSome}
use Rattle.std.proofs.lemmas.Option.{same_Some}
use Rattle.std.proofs.lemmas.Bool.{cases_eq, cases_lt}
use Rattle.ifmap_region.specs.Marks.{row_of, mark_over}
use Rattle.ifmap_region.specs.Losing.{Awaits}
use Rattle.ifmap_region.proofs.Lost.{over_unrowed, over_rowed}
use Rattle.ifmap_lemmas.specs.Options.{is_some_of}

module _ (level v : ℕ) (rows rows' : List (ℕ × Option ℕ)) (queue queue' : List ℕ) (put : Awaits level v rows rows' queue queue') where
  -- what has a row keeps one, and the number has one
  row_kept : (x : ℕ) → IsSome (row_of rows x) → IsSome (row_of rows' x)
  row_kept x h = elim put [
    | inl p ↦ ap (λ (r : List (ℕ × Option ℕ)). is_some (row_of r x)) p.1 ∙ h
    | inr p ↦ elim (cases_eq x v) [
      | inl at ↦ is_some_of (row_of rows' x) (Some level) (ap (row_of rows') at ∙ p.0.here)
      | inr apart ↦ ap is_some (p.0.others x apart) ∙ h
    ]
  ]

  row_now : IsSome (row_of rows' v)
  row_now = elim put [
    | inl p ↦ ap (λ (r : List (ℕ × Option ℕ)). is_some (row_of r v)) p.1 ∙ p.0
    | inr p ↦ is_some_of (row_of rows' v) (Some level) p.0.here
  ]

  module _ (first : ℕ → Option ℕ) where
    -- the row has the mark that is below it
    pub marks_kept : first v ≡ Some level → (x : ℕ) → mark_over rows' first x ≡ mark_over rows first x
    marks_kept marked x = elim put [
      | inl p ↦ ap (λ (r : List (ℕ × Option ℕ)). mark_over r first x) p.1
      | inr p ↦ elim (cases_eq x v) [
        | inl at ↦ ap (mark_over rows' first) at ∙ over_rowed rows' first v (Some level) p.0.here ∙ sym marked
            ∙ sym (over_unrowed rows first v p.0.bare) ∙ ap (mark_over rows first) (sym at)
        | inr apart ↦ ap (λ (o : Option (Option ℕ)). unwrap_or o (first x)) (p.0.others x apart)
      ]
    ]

    -- one place more, whose link leads to the number
    pub followed_more : (link : ℕ → Option ℕ) (i : ℕ) → link i ≡ Some v
        → ((j w : ℕ) → j < i → link j ≡ Some w → first w ≡ Some level → IsSome (row_of rows w))
        → (j w : ℕ) → j < i + 1 → link j ≡ Some w → first w ≡ Some level → IsSome (row_of rows' w)
    followed_more link i here so_far j w lt e m = elim (cases_lt j i) [
      | inl below ↦ row_kept w (so_far j w below e m)
      | inr from ↦
          let at : j ≡ i = omega (arith, lt, from) in
          let same : w ≡ v = same_Some w v (sym e ∙ ap link at ∙ here) in
          ap (λ (x : ℕ). is_some (row_of rows' x)) same ∙ row_now
    ]

-- one place more, whose link leads to a number with another mark
pub followed_other : (link : ℕ → Option ℕ) (i v level : ℕ) (first : ℕ → Option ℕ) (rows : List (ℕ × Option ℕ)) → link i ≡ Some v
    → (first v ≡ Some level → ⊥) → ((j w : ℕ) → j < i → link j ≡ Some w → first w ≡ Some level → IsSome (row_of rows w))
    → (j w : ℕ) → j < i + 1 → link j ≡ Some w → first w ≡ Some level → IsSome (row_of rows w)
followed_other link i v level first rows here other so_far j w lt e m = elim (cases_lt j i) [
  | inl below ↦ so_far j w below e m
  | inr from ↦
      let at : j ≡ i = omega (arith, lt, from) in
      let same : v ≡ w = same_Some v w (sym here ∙ ap link (sym at) ∙ e) in
      absurd (other (ap first same ∙ m))
]
