-- Rows that differ from the marks below, and rows by their places.
use Rattle.std.proofs.Common.{◌≡◌, ◌≢◌, ℕ, suc, ◌+◌, ◌<◌, ◌≤◌, Bool, true, false, Option, Some, None, List, [], ◌∷◌, length, nat_eq, cond, ◌⊎◌, inl, inr, refl, sym, ap, ◌∙◌, arith, unwrap_or}
use Rattle.std.specs.Prelude.{slice_get, IfSome}
use Rattle.std.specs.Map.{update}
use Rattle.std.proofs.lemmas.Option.{same_Some, none-some, slice_get_within}
use Rattle.std.proofs.lemmas.Bool.{cases_eq, cases_lt, eqb-true}
use Rattle.ifmap_region.specs.Marks.{row_of, mark_of, mark_over}
use Rattle.ifmap_region.proofs.Overs.{row_here, row_apart}

-- a row stands at some place
pub row_place : (es : List (ℕ × Option ℕ)) (v : ℕ) (r : Option ℕ) → row_of es v ≡ Some r → (j : ℕ) × (slice_get es j ≡ Some (v, r))
row_place [] v r e = absurd (none-some r e)
row_place (x ∷ es) v r e = by (nat_eq v x.0) refl (row_place es v r)
  where
    by : (t : Bool) → nat_eq v x.0 ≡ t → (row_of es v ≡ Some r → (j : ℕ) × (slice_get es j ≡ Some (v, r)))
        → (j : ℕ) × (slice_get (x ∷ es) j ≡ Some (v, r))
    by true t rest =
        let here : x.1 ≡ r = same_Some x.1 r (sym (ap (λ (b : Bool). cond b (Some x.1) (row_of es v)) t) ∙ e) in
        let key : v ≡ x.0 = eqb-true v x.0 t in
        (0, ap Some (ap (λ (k : ℕ). (k, x.1)) (sym key) ∙ ap (λ (o : Option ℕ). (v, o)) here))
    by false t rest = let p = rest (sym (ap (λ (b : Bool). cond b (Some x.1) (row_of es v)) t) ∙ e) in (suc p.0, p.1)

module _ (rows base changed after : List (ℕ × Option ℕ)) (n : ℕ) (s : Option ℕ) (i : ℕ)
    (place : slice_get rows i ≡ Some (n, s)) (row : row_of rows n ≡ Some s) where
  last_place : (j v : ℕ) (r : Option ℕ) → j < i + 1 → slice_get rows j ≡ Some (v, r) → (j < i) ⊎ ((n ≡ v) × (s ≡ r))
  last_place j v r lt e = elim (cases_lt j i) [
    | inl l ↦ inl l
    | inr g ↦
        let at : j ≡ i = omega (arith, lt, g) in
        let same = same_Some (n, s) (v, r) (sym place ∙ ap (slice_get rows) (sym at) ∙ e) in
        inr (ap (λ (p : ℕ × Option ℕ). p.0) same, ap (λ (p : ℕ × Option ℕ). p.1) same)
  ]

  pub each_same : s ≡ mark_of base n
      → ((j v : ℕ) (r : Option ℕ) → j < i → slice_get rows j ≡ Some (v, r) → row_of rows v ≡ Some r → r ≢ mark_of base v
      → row_of changed v ≡ Some r)
      → (j v : ℕ) (r : Option ℕ) → j < i + 1 → slice_get rows j ≡ Some (v, r) → row_of rows v ≡ Some r → r ≢ mark_of base v
      → row_of changed v ≡ Some r
  each_same same each j v r lt e f d = elim (last_place j v r lt e) [
    | inl l ↦ each j v r l e f d
    | inr p ↦ absurd (d (sym p.1 ∙ same ∙ ap (mark_of base) p.0))
  ]

  module _ (put : (q : ℕ) → row_of after q ≡ update nat_eq (row_of changed) n (Some s) q) where
    pub only_put : s ≢ mark_of base n
        → ((v : ℕ) (r : Option ℕ) → row_of changed v ≡ Some r → (row_of rows v ≡ Some r) × (r ≢ mark_of base v))
        → (v : ℕ) (r : Option ℕ) → row_of after v ≡ Some r → (row_of rows v ≡ Some r) × (r ≢ mark_of base v)
    only_put differs only v r e = elim (cases_eq v n) [
      | inl at ↦
          let same : s ≡ r = same_Some s r (sym (row_here changed after (mark_of base) n s put) ∙ ap (row_of after) (sym at) ∙ e) in
          (ap (row_of rows) at ∙ row ∙ ap Some same, λ d. differs (same ∙ d ∙ ap (mark_of base) at))
      | inr apart ↦ only v r (sym (row_apart changed after (mark_of base) n s put v apart) ∙ e)
    ]

    pub each_put : ((j v : ℕ) (r : Option ℕ) → j < i → slice_get rows j ≡ Some (v, r) → row_of rows v ≡ Some r → r ≢ mark_of base v
        → row_of changed v ≡ Some r)
        → (j v : ℕ) (r : Option ℕ) → j < i + 1 → slice_get rows j ≡ Some (v, r) → row_of rows v ≡ Some r → r ≢ mark_of base v
        → row_of after v ≡ Some r
    each_put each j v r lt e f d = elim (cases_eq v n) [
      | inl at ↦ ap (row_of after) at ∙ row_here changed after (mark_of base) n s put ∙ sym row ∙ ap (row_of rows) (sym at) ∙ f
      | inr apart ↦ row_apart changed after (mark_of base) n s put v apart ∙ elim (last_place j v r lt e) [
        | inl l ↦ each j v r l e f d
        | inr p ↦ absurd (apart (sym p.0))
      ]
    ]

pub each_past : (rows base changed : List (ℕ × Option ℕ)) (i : ℕ) → length rows ≤ i
    → ((j v : ℕ) (r : Option ℕ) → j < i → slice_get rows j ≡ Some (v, r) → row_of rows v ≡ Some r → r ≢ mark_of base v
    → row_of changed v ≡ Some r)
    → (v : ℕ) (r : Option ℕ) → row_of rows v ≡ Some r → r ≢ mark_of base v → row_of changed v ≡ Some r
each_past rows base changed i le each v r e d =
    let p = row_place rows v r e in
    each p.0 v r (omega (arith, slice_get_within rows p.0 (v, r) p.1, le)) p.1 e d

-- whether two marks are the same can be told
same_or_not : (a b : Option ℕ) → (a ≡ b) ⊎ (a ≡ b → ⊥)
same_or_not None None = inl refl
same_or_not None (Some y) = inr (none-some y)
same_or_not (Some x) None = inr (λ e. none-some x (sym e))
same_or_not (Some x) (Some y) = elim (cases_eq x y) [ inl e ↦ inl (ap Some e) | inr apart ↦ inr (λ e. apart (same_Some x y e)) ]

-- rows that were left out as they do not differ leave the marks as they are
pub over_differing : (rows base changed : List (ℕ × Option ℕ))
    → ((v : ℕ) (r : Option ℕ) → row_of changed v ≡ Some r → (row_of rows v ≡ Some r) × (r ≢ mark_of base v))
    → ((v : ℕ) (r : Option ℕ) → row_of rows v ≡ Some r → r ≢ mark_of base v → row_of changed v ≡ Some r)
    → (v : ℕ) → mark_over changed (mark_of base) v ≡ mark_over rows (mark_of base) v
over_differing rows base changed only each v = by (row_of rows v) (row_of changed v) refl refl
  where
    at : (m : List (ℕ × Option ℕ)) (o : Option (Option ℕ)) → row_of m v ≡ o → mark_over m (mark_of base) v ≡ unwrap_or o (mark_of base v)
    at m o e = ap (λ (x : Option (Option ℕ)). unwrap_or x (mark_of base v)) e

    by : (o p : Option (Option ℕ)) → row_of rows v ≡ o → row_of changed v ≡ p
        → mark_over changed (mark_of base) v ≡ mark_over rows (mark_of base) v
    by None None e f = at changed None f ∙ sym (at rows None e)
    by None (Some r) e f = absurd (none-some r (sym e ∙ (only v r f).0))
    by (Some r) (Some s) e f = at changed (Some s) f ∙ same_Some s r (sym (only v s f).0 ∙ e) ∙ sym (at rows (Some r) e)
    by (Some r) None e f = elim (same_or_not r (mark_of base v)) [
      | inl same ↦ at changed None f ∙ sym same ∙ sym (at rows (Some r) e)
      | inr differs ↦ absurd (none-some r (sym f ∙ each v r e differs))
    ]

-- where a number has a row, it stands at some place
pub row_found : (rows : List (ℕ × Option ℕ)) (v : ℕ) (o : Option (Option ℕ)) → o ≡ row_of rows v
    → IfSome o (λ mark. (i : ℕ) × (slice_get rows i ≡ Some (v, mark)))
row_found rows v None e = tt
row_found rows v (Some r) e = row_place rows v r (sym e)
