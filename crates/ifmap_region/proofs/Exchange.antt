-- Rows that are exchanged, made room for and swept one by one.
-- Plan: an exchange at each place in turn makes the patch's marks and leaves those that were there (`rows_next`,
-- `patch_next`, `makes_all`, `taken_all`). Room is made for one number more (`only_put`, `done_put`), and rows without a
-- mark go one by one (`each_swept`, `out_swept`). At the end: what a way back gives (`marks_back`, `patch_back`), that
-- room and sweeps leave the marks, and a change with the sweep of its numbers.
use Rattle.std.proofs.Common.{◌≡◌, ◌≢◌, ℕ, zero, suc, ◌+◌, ◌<◌, ◌≤◌, Bool, true, false, Option, Some, None, List, [], ◌∷◌, ◌++◌, length, get_or, take, drop, nat_eq, cond, is_some, Contains, ◌⊎◌, inl, inr, refl, sym, ap, subst, ◌∙◌, arith, true≢false, unwrap_or, append_assoc, length-take}
use Rattle.std.specs.Prelude.{slice_get, IsSome}
use Rattle.std.specs.Map.{update, keys_of}
use Rattle.std.specs.List.{IsDistinct}
use Rattle.indexmap.specs.IndexMap.{insert_entry}
use Rattle.std.proofs.lemmas.Option.{same_Some, none-some}
use Rattle.std.proofs.lemmas.Bool.{cases_eq, cases_lt, eqb-true, eq-eqb, ne_eqb}
use Rattle.std.proofs.lemmas.List.{take_more, drop_more, take_all, drop_all, take-append-drop, append-nil, length-map, map_push}
use Rattle.std.proofs.lemmas.List.Elements.{Contains-append_right}
use Rattle.ifmap_lemmas.specs.Absent.{none_where_not_some}
use Rattle.ifmap_lemmas.specs.Distinct.{distinct_head, distinct_tail}
use Rattle.ifmap_region.specs.Marks.{row_of, mark_of, mark_over}
use Rattle.ifmap_region.specs.Ways.{HasRoom, OnlyRoom, Makes, Sweeps, Exchanges, IsWayBack, taken_from}
use Rattle.std.specs.Option.{option_map}
use Rattle.ifmap_region.proofs.Overs.{row_here, row_apart}
use Rattle.ifmap_region.proofs.Patches.{row_place}

-- the first row, where there is one, else the second
abbrev pub first_row : Option (Option ℕ) → Option (Option ℕ) → Option (Option ℕ)
first_row None second = second
first_row (Some r) second = Some r

row_append : (xs ys : List (ℕ × Option ℕ)) (v : ℕ) → row_of (xs ++ ys) v ≡ first_row (row_of xs v) (row_of ys v)
row_append [] ys v = refl
row_append (x ∷ xs) ys v = by (nat_eq v x.0) (row_append xs ys v)
  where
    by : (t : Bool) → row_of (xs ++ ys) v ≡ first_row (row_of xs v) (row_of ys v)
        → cond t (Some x.1) (row_of (xs ++ ys) v) ≡ first_row (cond t (Some x.1) (row_of xs v)) (row_of ys v)
    by true rest = refl
    by false rest = rest

key_in : (xs ys : List (ℕ × Option ℕ)) (n : ℕ) (r : Option ℕ) → Contains (keys_of (xs ++ (n, r) ∷ ys)) n
key_in [] ys n r = (0, omega arith, refl)
key_in (x ∷ xs) ys n r = Contains-append_right (x.0 ∷ []) (keys_of (xs ++ (n, r) ∷ ys)) n (key_in xs ys n r)

-- a number has no row before its place
fresh_at : (xs ys : List (ℕ × Option ℕ)) (n : ℕ) (r : Option ℕ) → IsDistinct nat_eq (keys_of (xs ++ (n, r) ∷ ys)) → row_of xs n ≡ None
fresh_at [] ys n r d = refl
fresh_at (x ∷ xs) ys n r d =
    let apart : x.0 ≢ n = distinct_head x.0 (keys_of (xs ++ (n, r) ∷ ys)) d n (key_in xs ys n r) in
    ap (λ (t : Bool). cond t (Some x.1) (row_of xs n)) (ne_eqb n x.0 (λ e. apart (sym e))) ∙ fresh_at xs ys n r (distinct_tail x.0
    (keys_of (xs ++ (n, r) ∷ ys)) d)

-- a row is put at its place
insert_at : (xs ys : List (ℕ × Option ℕ)) (n : ℕ) (r w : Option ℕ) → row_of xs n ≡ None
    → insert_entry nat_eq (xs ++ (n, r) ∷ ys) n w ≡ xs ++ (n, w) ∷ ys
insert_at [] ys n r w fresh = ap (λ (t : Bool). cond t ((n, w) ∷ ys) ((n, r) ∷ insert_entry nat_eq ys n w)) (eq-eqb n n refl)
insert_at (x ∷ xs) ys n r w fresh = by (nat_eq n x.0) refl (insert_at xs ys n r w)
  where
    by : (t : Bool) → nat_eq n x.0 ≡ t → (row_of xs n ≡ None → insert_entry nat_eq (xs ++ (n, r) ∷ ys) n w ≡ xs ++ (n, w) ∷ ys)
        → insert_entry nat_eq (x ∷ (xs ++ (n, r) ∷ ys)) n w ≡ x ∷ (xs ++ (n, w) ∷ ys)
    by true t rest = absurd (none-some x.1 (sym (sym (ap (λ (b : Bool). cond b (Some x.1) (row_of xs n)) t) ∙ fresh)))
    by false t rest =
        ap (λ (b : Bool). cond b ((x.0, w) ∷ (xs ++ (n, r) ∷ ys)) (x ∷ insert_entry nat_eq (xs ++ (n, r) ∷ ys) n w)) t
        ∙ ap (λ (l : List (ℕ × Option ℕ)). x ∷ l) (rest (sym (ap (λ (b : Bool). cond b (Some x.1) (row_of xs n)) t) ∙ fresh))

rowed_taken : (rows xs : List (ℕ × Option ℕ)) (v : ℕ) → is_some (row_of (taken_from (mark_of rows) xs) v) ≡ is_some (row_of xs v)
rowed_taken rows [] v = refl
rowed_taken rows (x ∷ xs) v = by (nat_eq v x.0) (rowed_taken rows xs v)
  where
    by : (t : Bool) → is_some (row_of (taken_from (mark_of rows) xs) v) ≡ is_some (row_of xs v)
        → is_some (cond t (Some (mark_of rows x.0)) (row_of (taken_from (mark_of rows) xs) v)) ≡ is_some (cond t (Some x.1) (row_of xs v))
    by true rest = refl
    by false rest = rest

rowed_first : (a b c : Option (Option ℕ)) → is_some a ≡ is_some c → is_some (first_row a b) ≡ is_some (first_row c b)
rowed_first None b None e = refl
rowed_first None b (Some r) e = absurd (true≢false (sym e))
rowed_first (Some r) b None e = absurd (true≢false e)
rowed_first (Some r) b (Some s) e = refl

slice_at : (xs ys : List (ℕ × Option ℕ)) (e : ℕ × Option ℕ) (i : ℕ) → length xs ≡ i → slice_get (xs ++ e ∷ ys) i ≡ Some e
slice_at [] ys e zero l = refl
slice_at [] ys e (suc i) l = absurd (omega (arith, l))
slice_at (x ∷ xs) ys e zero l = absurd (omega (arith, l))
slice_at (x ∷ xs) ys e (suc i) l = slice_at xs ys e i (omega (arith, l))

module _ (rows es now patch : List (ℕ × Option ℕ)) (i : ℕ) (distinct : IsDistinct nat_eq (keys_of es))
    (inv_rows : (v : ℕ) → row_of now v ≡ first_row (row_of (take i es) v) (row_of rows v))
    (inv_patch : patch ≡ taken_from (mark_of rows) (take i es) ++ drop i es) where
  pub room_now : HasRoom es rows → HasRoom patch now
  room_now room v h = by (row_of (take i es) v) (row_of (drop i es) v) refl refl
    where
      some : is_some (first_row (row_of (take i es) v) (row_of (drop i es) v)) ≡ true
      some = sym (rowed_first (row_of (taken_from (mark_of rows) (take i es)) v) (row_of (drop i es) v) (row_of (take i es) v)
          (rowed_taken rows (take i es) v))
          ∙ sym (ap is_some (row_append (taken_from (mark_of rows) (take i es)) (drop i es) v)) ∙ ap (λ (l : List (ℕ × Option ℕ)).
          is_some (row_of l v)) (sym inv_patch) ∙ h

      in_all : is_some (row_of es v) ≡ true
      in_all = ap (λ (l : List (ℕ × Option ℕ)). is_some (row_of l v)) (sym (take-append-drop i es)) ∙ ap is_some (row_append (take i es)
          (drop i es) v) ∙ some

      by : (a b : Option (Option ℕ)) → row_of (take i es) v ≡ a → row_of (drop i es) v ≡ b → IsSome (row_of now v)
      by None b e f = ap is_some (inv_rows v ∙ ap (λ (o : Option (Option ℕ)). first_row o (row_of rows v)) e) ∙ room v in_all
      by (Some r) b e f = ap is_some (inv_rows v ∙ ap (λ (o : Option (Option ℕ)). first_row o (row_of rows v)) e)

  module _ (rows' patch' : List (ℕ × Option ℕ)) (lt : i < length es) (ex : Exchanges i now patch rows' patch') where
    e : ℕ × Option ℕ
    e = get_or es i (0, None)

    parts : es ≡ take i es ++ get_or es i (0, None) ∷ drop (i + 1) es
    parts = sym (take-append-drop i es) ∙ ap (λ (l : List (ℕ × Option ℕ)). take i es ++ l) (drop_more es i (0, None) lt)

    patch_is : patch ≡ taken_from (mark_of rows) (take i es) ++ get_or es i (0, None) ∷ drop (i + 1) es
    patch_is = inv_patch ∙ ap (λ (l : List (ℕ × Option ℕ)). taken_from (mark_of rows) (take i es) ++ l) (drop_more es i (0, None) lt)

    fresh : row_of (take i es) (get_or es i (0, None)).0 ≡ None
    fresh = fresh_at (take i es) (drop (i + 1) es) (get_or es i (0, None)).0 (get_or es i (0, None)).1 (subst (λ (l : List (ℕ × Option
        ℕ)). IsDistinct nat_eq (keys_of l)) parts distinct)

    at_place : slice_get patch i ≡ Some (get_or es i (0, None))
    at_place = ap (λ (l : List (ℕ × Option ℕ)). slice_get l i) patch_is
        ∙ slice_at (taken_from (mark_of rows) (take i es)) (drop (i + 1) es) (get_or es i (0, None)) i
        (length-map {B = ℕ × Option ℕ} (take i es) (λ (x : ℕ × Option ℕ). (x.0, mark_of rows x.0)) ∙ length_front)
      where
        length_front : length (take i es) ≡ i
        length_front = omega (arith, length-take i es, lt)

    done : ((q : ℕ) → row_of rows' q ≡ update nat_eq (row_of now) (get_or es i (0, None)).0 (Some (get_or es i (0, None)).1) q)
        × (patch' ≡ insert_entry nat_eq patch (get_or es i (0, None)).0 (mark_of now (get_or es i (0, None)).0))
    done = ex.at (get_or es i (0, None)).0 (get_or es i (0, None)).1 at_place

    drop_none : (a b : Option (Option ℕ)) → first_row (first_row a None) b ≡ first_row a b
    drop_none None b = refl
    drop_none (Some r) b = refl

    front_row : (v : ℕ) → row_of (take (i + 1) es) v ≡ first_row (row_of (take i es) v) (row_of (get_or es i (0, None) ∷ []) v)
    front_row v = ap (λ (l : List (ℕ × Option ℕ)). row_of l v) (take_more es i (0, None) lt) ∙ row_append (take i es) (get_or es i (
      0,
      None,
    ) ∷ []) v

    pub rows_next : (v : ℕ) → row_of rows' v ≡ first_row (row_of (take (i + 1) es) v) (row_of rows v)
    rows_next v = elim (cases_eq v (get_or es i (0, None)).0) [
      | inl at ↦
          ap (row_of rows') at ∙ row_here now rows' (λ _. None) (get_or es i (0, None)).0 (get_or es i (0, None)).1 done.0
          ∙ sym (ap (λ (o : Option (Option ℕ)). first_row o (row_of rows v))
          (front_row v ∙ ap (λ (o : Option (Option ℕ)). first_row o (row_of (get_or es i (0, None) ∷ []) v)) (ap (row_of (take i es)) at
          ∙ fresh)
          ∙ ap (λ (t : Bool). cond t (Some (get_or es i (0, None)).1) None) (eq-eqb v (get_or es i (0, None)).0 at)))
      | inr apart ↦
          row_apart now rows' (λ _. None) (get_or es i (0, None)).0 (get_or es i (0, None)).1 done.0 v apart ∙ inv_rows v
          ∙ sym (ap (λ (o : Option (Option ℕ)). first_row o (row_of rows v))
          (front_row v ∙ ap (λ (t : Bool). first_row (row_of (take i es) v) (cond t (Some (get_or es i (0, None)).1) None)) (ne_eqb v
          (get_or es i (0, None)).0 apart))
          ∙ drop_none (row_of (take i es) v) (row_of rows v))
    ]

    pub patch_next : patch' ≡ taken_from (mark_of rows) (take (i + 1) es) ++ drop (i + 1) es
    patch_next =
        done.1 ∙ ap (λ (l : List (ℕ × Option ℕ)). insert_entry nat_eq l (get_or es i (0, None)).0 (mark_of now (get_or es i (
          0,
          None,
        )).0)) patch_is
        ∙ insert_at (taken_from (mark_of rows) (take i es)) (drop (i + 1) es) (get_or es i (0, None)).0 (get_or es i (0, None)).1
        (mark_of now (get_or es i (0, None)).0)
        (none_where_not_some (row_of (taken_from (mark_of rows) (take i es)) (get_or es i (0, None)).0)
        (rowed_taken rows (take i es) (get_or es i (0, None)).0 ∙ ap is_some fresh))
        ∙ ap (λ (m : Option ℕ). taken_from (mark_of rows) (take i es) ++ ((get_or es i (0, None)).0, m) ∷ drop (i + 1) es) mark_is
        ∙ sym (ap (λ (l : List (ℕ × Option ℕ)). taken_from (mark_of rows) l ++ drop (i + 1) es) (take_more es i (0, None) lt)
        ∙ ap (λ (l : List (ℕ × Option ℕ)). l ++ drop (i + 1) es) (map_push (λ (x : ℕ × Option ℕ). (x.0, mark_of rows x.0)) (take i es)
        (get_or es i (0, None)))
        ∙ append_assoc (taken_from (mark_of rows) (take i es)) (((get_or es i (0, None)).0, mark_of rows (get_or es i (0, None)).0) ∷ [])
        (drop (i + 1) es))
      where
        mark_is : mark_of now (get_or es i (0, None)).0 ≡ mark_of rows (get_or es i (0, None)).0
        mark_is = ap (λ (o : Option (Option ℕ)). unwrap_or o None) (inv_rows (get_or es i (0, None)).0 ∙ ap (λ (o : Option (Option ℕ)).
            first_row o (row_of rows (get_or es i (0, None)).0)) fresh)

  pub makes_all : HasRoom es rows → length es ≤ i → Makes es rows now
  makes_all room le = record { marks = λ v. marked v (row_of es v) refl; rows = λ v. rowed v (row_of es v) refl }
    where
      row : (v : ℕ) → row_of now v ≡ first_row (row_of es v) (row_of rows v)
      row v = inv_rows v ∙ ap (λ (l : List (ℕ × Option ℕ)). first_row (row_of l v) (row_of rows v)) (take_all i es le)

      marked : (v : ℕ) (o : Option (Option ℕ)) → row_of es v ≡ o → mark_of now v ≡ mark_over es (mark_of rows) v
      marked v None f = ap (λ (o : Option (Option ℕ)). unwrap_or o None) (row v ∙ ap (λ (o : Option (Option ℕ)). first_row o (row_of rows
          v)) f) ∙ sym (ap (λ (o : Option (Option ℕ)). unwrap_or o (mark_of rows v)) f)
      marked v (Some r) f = ap (λ (o : Option (Option ℕ)). unwrap_or o None) (row v ∙ ap (λ (o : Option (Option ℕ)). first_row o (row_of
          rows v)) f) ∙ sym (ap (λ (o : Option (Option ℕ)). unwrap_or o (mark_of rows v)) f)

      rowed : (v : ℕ) (o : Option (Option ℕ)) → row_of es v ≡ o → is_some (row_of now v) ≡ is_some (row_of rows v)
      rowed v None f = ap is_some (row v ∙ ap (λ (o : Option (Option ℕ)). first_row o (row_of rows v)) f)
      rowed v (Some r) f = ap is_some (row v ∙ ap (λ (o : Option (Option ℕ)). first_row o (row_of rows v)) f) ∙ sym (room v (ap is_some
          f))

  pub taken_all : length es ≤ i → patch ≡ taken_from (mark_of rows) es
  taken_all le =
      inv_patch ∙ ap (λ (l : List (ℕ × Option ℕ)). taken_from (mark_of rows) l ++ drop i es) (take_all i es le)
      ∙ ap (λ (l : List (ℕ × Option ℕ)). taken_from (mark_of rows) es ++ l) (drop_all i es le) ∙ append-nil (taken_from (mark_of rows) es)

-- a place below i + 1 is below i, or has what stands at i
pub place_cases : (es : List (ℕ × Option ℕ)) (n : ℕ) (s : Option ℕ) (i : ℕ) → slice_get es i ≡ Some (n, s)
    → (j v : ℕ) (r : Option ℕ) → j < i + 1 → slice_get es j ≡ Some (v, r) → (j < i) ⊎ (n ≡ v)
place_cases es n s i place j v r lt e = elim (cases_lt j i) [
  | inl l ↦ inl l
  | inr g ↦
      let at : j ≡ i = omega (arith, lt, g) in
      inr (ap (λ (p : ℕ × Option ℕ). p.0) (same_Some (n, s) (v, r) (sym place ∙ ap (slice_get es) (sym at) ∙ e)))
]

-- room for one number more
module _ (patch old rows after : List (ℕ × Option ℕ)) (n : ℕ) (s : Option ℕ) (i : ℕ)
    (place : slice_get patch i ≡ Some (n, s)) (listed : row_of patch n ≡ Some s)
    (only : OnlyRoom patch old rows) (done : (j v : ℕ) (r : Option ℕ) → j < i → slice_get patch j ≡ Some (v, r)
    → IsSome (row_of rows v)) where
  pub done_same : IsSome (row_of rows n) → (j v : ℕ) (r : Option ℕ) → j < i + 1 → slice_get patch j ≡ Some (v, r) → IsSome (row_of rows v)
  done_same h j v r lt e = elim (place_cases patch n s i place j v r lt e) [
    | inl l ↦ done j v r l e
    | inr at ↦ subst (λ (x : ℕ). IsSome
        (row_of rows x)) at h
  ]

  module _ (bare : row_of rows n ≡ None) (put : (q : ℕ) → row_of after q ≡ update nat_eq (row_of rows) n (Some None) q) where
    pub only_put : OnlyRoom patch old after
    only_put v = elim (cases_eq v n) [
      | inl at ↦ elim (only n) [
        | inl same ↦ inr (
          ap (row_of old) at ∙ sym same ∙ bare,
          ap (row_of after) at ∙ row_here rows after (λ _. None) n None put,
          ap
              is_some (ap (row_of patch) at ∙ listed),
        )
        | inr p ↦ absurd (none-some None (sym bare ∙ p.1))
      ]
      | inr apart ↦ elim (only v) [
        | inl same ↦ inl (row_apart rows after (λ _. None) n None put v apart ∙ same)
        | inr p ↦ inr (p.0, row_apart rows after (λ _. None) n None put v apart ∙ p.1, p.2)
      ]
    ]

    pub done_put : (j v : ℕ) (r : Option ℕ) → j < i + 1 → slice_get patch j ≡ Some (v, r) → IsSome (row_of after v)
    done_put j v r lt e = elim (cases_eq v n) [
      | inl at ↦ ap is_some (ap (row_of after) at ∙ row_here rows after (λ _. None) n None put)
      | inr apart ↦ elim (place_cases patch n s i place j v r lt e) [
        | inl l ↦ ap is_some (row_apart rows after (λ _. None) n None put v apart) ∙ done j v r l e
        | inr at ↦ absurd (apart (sym at))
      ]
    ]

pub room_all : (patch rows : List (ℕ × Option ℕ)) (i : ℕ) → ((j v : ℕ) (r : Option ℕ) → slice_get patch j ≡ Some (v, r) → j < i)
    → ((j v : ℕ) (r : Option ℕ) → j < i → slice_get patch j ≡ Some (v, r) → IsSome (row_of rows v)) → HasRoom patch rows
room_all patch rows i within done v h = by (row_of patch v) refl h
  where
    by : (o : Option (Option ℕ)) → row_of patch v ≡ o → IsSome o → IsSome (row_of rows v)
    by None e h = absurd (true≢false (sym h))
    by (Some r) e h = let p = row_place patch v r e in done p.0 v r (within p.0 v r p.1) p.1

-- one number more is swept
module _ (patch old rows after : List (ℕ × Option ℕ)) (n : ℕ) (s : Option ℕ) (i : ℕ)
    (place : slice_get patch i ≡ Some (n, s)) (listed : row_of patch n ≡ Some s)
    (each : (v : ℕ) → (row_of rows v ≡ row_of old v) ⊎ ((row_of old v ≡ Some None) × (row_of rows v ≡ None) × IsSome (row_of patch v)))
    (out : (j v : ℕ) (r : Option ℕ) → j < i → slice_get patch j ≡ Some (v, r) → row_of old v ≡ Some None → row_of rows v ≡ None) where
  pub out_same : (row_of rows n ≡ Some None → ⊥) → (j v : ℕ) (r : Option ℕ) → j < i + 1 → slice_get patch j ≡ Some (v, r)
      → row_of old v ≡ Some None → row_of rows v ≡ None
  out_same marked j v r lt e bare = elim (place_cases patch n s i place j v r lt e) [
    | inl l ↦ out j v r l e bare
    | inr at ↦ elim (each v) [
      | inl same ↦ absurd (marked (ap (row_of rows) at ∙ same ∙ bare))
      | inr p ↦ p.1
    ]
  ]

  module _ (bare : row_of rows n ≡ Some None) (gone : (q : ℕ) → row_of after q ≡ cond (nat_eq n q) None (row_of rows q)) where
    gone_here : row_of after n ≡ None
    gone_here = gone n ∙ ap (λ (t : Bool). cond t None (row_of rows n)) (eq-eqb n n refl)

    gone_apart : (v : ℕ) → v ≢ n → row_of after v ≡ row_of rows v
    gone_apart v apart = gone v ∙ ap (λ (t : Bool). cond t None (row_of rows v)) (ne_eqb n v (λ e. apart (sym e)))

    pub each_swept : (v : ℕ) → (row_of after v ≡ row_of old v) ⊎ ((row_of old v ≡ Some None) × (row_of after v ≡ None) × IsSome (row_of
        patch v))
    each_swept v = elim (cases_eq v n) [
      | inl at ↦ elim (each n) [
        | inl same ↦ inr (
          ap (row_of old) at ∙ sym same ∙ bare,
          ap (row_of after) at ∙ gone_here,
          ap is_some (ap (row_of patch) at ∙
              listed),
        )
        | inr p ↦ absurd (none-some None (sym p.1 ∙ bare))
      ]
      | inr apart ↦ elim (each v) [
        | inl same ↦ inl (gone_apart v apart ∙ same)
        | inr p ↦ inr (p.0, gone_apart v apart ∙ p.1, p.2)
      ]
    ]

    pub out_swept : (j v : ℕ) (r : Option ℕ) → j < i + 1 → slice_get patch j ≡ Some (v, r) → row_of old v ≡ Some None
        → row_of after v ≡ None
    out_swept j v r lt e old_bare = elim (cases_eq v n) [
      | inl at ↦ ap (row_of after) at ∙ gone_here
      | inr apart ↦ gone_apart v apart ∙ elim (place_cases patch n s i place j v r lt e) [
        | inl l ↦ out j v r l e old_bare
        | inr at ↦
            absurd (apart (sym at))
      ]
    ]

pub swept_all : (patch old rows : List (ℕ × Option ℕ)) (i : ℕ) → ((j v : ℕ) (r : Option ℕ) → slice_get patch j ≡ Some (v, r) → j < i)
    → ((v : ℕ) → (row_of rows v ≡ row_of old v) ⊎ ((row_of old v ≡ Some None) × (row_of rows v ≡ None) × IsSome (row_of patch v)))
    → ((j v : ℕ) (r : Option ℕ) → j < i → slice_get patch j ≡ Some (v, r) → row_of old v ≡ Some None → row_of rows v ≡ None)
    → Sweeps patch old rows
swept_all patch old rows i within each out = record { each = each; out = λ v h bare. by v (row_of patch v) refl h bare }
  where
    by : (v : ℕ) (o : Option (Option ℕ)) → row_of patch v ≡ o → IsSome o → row_of old v ≡ Some None → row_of rows v ≡ None
    by v None e h bare = absurd (true≢false (sym h))
    by v (Some r) e h bare = let p = row_place patch v r e in out p.0 v r (within p.0 v r p.1) p.1 bare

-- what was taken has the numbers of the patch, with the marks that they had
row_taken : (mark : ℕ → Option ℕ) (patch : List (ℕ × Option ℕ)) (v : ℕ) → row_of (taken_from mark patch) v ≡ option_map (λ _. mark v)
    (row_of patch v)
row_taken mark [] v = refl
row_taken mark (x ∷ xs) v = by (nat_eq v x.0) refl (row_taken mark xs v)
  where
    by : (t : Bool) → nat_eq v x.0 ≡ t → row_of (taken_from mark xs) v ≡ option_map (λ _. mark v) (row_of xs v)
        → cond t (Some (mark x.0)) (row_of (taken_from mark xs) v) ≡ option_map (λ _. mark v) (cond t (Some x.1) (row_of xs v))
    by true e rest = ap (λ (n : ℕ). Some (mark n)) (sym (eqb-true v x.0 e))
    by false e rest = rest

-- the marks before come back, and the patch with them
module _ (undo patch : List (ℕ × Option ℕ)) (before after : ℕ → Option ℕ) (way : IsWayBack undo patch before after) (v : ℕ) where
  undo_row : row_of undo v ≡ option_map (λ _. before v) (row_of patch v)
  undo_row = ap (λ (l : List (ℕ × Option ℕ)). row_of l v) way.taken ∙ row_taken before patch v

  pub marks_back : mark_over undo after v ≡ before v
  marks_back = by (row_of patch v) refl
    where
      by : (o : Option (Option ℕ)) → row_of patch v ≡ o → mark_over undo after v ≡ before v
      by None e =
          ap (λ (o : Option (Option ℕ)). unwrap_or o (after v)) (undo_row ∙ ap (option_map (λ _. before v)) e)
          ∙ way.made v ∙ ap (λ (o : Option (Option ℕ)). unwrap_or o (before v)) e
      by (Some r) e = ap (λ (o : Option (Option ℕ)). unwrap_or o (after v)) (undo_row ∙ ap (option_map (λ _. before v)) e)

  pub patch_back : row_of (taken_from after undo) v ≡ row_of patch v
  patch_back = row_taken after undo v ∙ by (row_of patch v) refl
    where
      by : (o : Option (Option ℕ)) → row_of patch v ≡ o → option_map (λ _. after v) (row_of undo v) ≡ row_of patch v
      by None e = ap (option_map (λ _. after v)) (undo_row ∙ ap (option_map (λ _. before v)) e) ∙ sym e
      by (Some r) e =
          ap (option_map (λ _. after v)) (undo_row ∙ ap (option_map (λ _. before v)) e)
          ∙ ap Some (way.made v ∙ ap (λ (o : Option (Option ℕ)). unwrap_or o (before v)) e) ∙ sym e

-- a sweep leaves the marks
pub marks_swept : (patch old new : List (ℕ × Option ℕ)) → Sweeps patch old new → (v : ℕ) → mark_of new v ≡ mark_of old v
marks_swept patch old new s v = elim (s.each v) [
  | inl same ↦ ap (λ (o : Option (Option ℕ)). unwrap_or o None) same
  | inr p ↦ ap (λ (o : Option (Option ℕ)). unwrap_or o None) p.1 ∙ sym (ap (λ (o : Option (Option ℕ)). unwrap_or o None) p.0)
]

-- room leaves the marks
pub marks_roomed : (patch old new : List (ℕ × Option ℕ)) → OnlyRoom patch old new → (v : ℕ) → mark_of new v ≡ mark_of old v
marks_roomed patch old new s v = elim (s v) [
  | inl same ↦ ap (λ (o : Option (Option ℕ)). unwrap_or o None) same
  | inr p ↦ ap (λ (o : Option (Option ℕ)). unwrap_or o None) p.1 ∙ sym (ap (λ (o : Option (Option ℕ)). unwrap_or o None) p.0)
]

-- a change and a sweep of its numbers
module _ (patch old mid new : List (ℕ × Option ℕ)) (made : Makes patch old mid) (swept : Sweeps (taken_from (mark_of old) patch) mid new)
    (v : ℕ) where
  pub commit_swept : IsSome (row_of patch v) → row_of new v ≡ Some None → ⊥
  commit_swept h e = elim (swept.each v) [
    | inl same ↦ none-some None (sym (swept.out v (rowed_taken old patch v ∙ h) (sym same ∙ e)) ∙ e)
    | inr p ↦ none-some None (sym p.1 ∙ e)
  ]

  pub commit_others : row_of patch v ≡ None → is_some (row_of new v) ≡ is_some (row_of old v)
  commit_others none = elim (swept.each v) [
    | inl same ↦ ap is_some same ∙ made.rows v
    | inr p ↦ absurd (true≢false (sym p.2 ∙ rowed_taken old patch v ∙ ap is_some none))
  ]

-- the numbers that were exchanged still have rows
pub room_taken : (patch old new taken : List (ℕ × Option ℕ)) → HasRoom patch old → Makes patch old new
    → taken ≡ taken_from (mark_of old) patch → HasRoom taken new
room_taken patch old new taken room made is v h =
    made.rows v ∙ room v (sym (rowed_taken old patch v) ∙ ap (λ (l : List (ℕ × Option ℕ)). is_some (row_of l v)) (sym is) ∙ h)
