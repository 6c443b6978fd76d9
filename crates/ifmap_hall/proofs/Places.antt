-- Places: how often each stands in a list, and lists that rise.
use Rattle.std.proofs.Common.{◌≡◌, ◌≢◌, ◌⊎◌, ℕ, ◌+◌, ◌<◌, ◌≤◌, List, [], ◌∷◌, ◌++◌, length, drop, map, Bool, true, false, cond, nat_eq, nat_lt, refl, sym, ap, ◌∙◌, inl, inr, arith, append-nil, length-append}
use Rattle.std.proofs.Math.Seq.{drop-append_seam, drop-length}
use Rattle.std.proofs.lemmas.Bool.Decides.{nat_tests}
use Rattle.std.proofs.lemmas.Bool.{cases_eq, cases_lt}
use Rattle.ifmap_hall.specs.Places.{times, once_below, RisesBetween, insert_place, merge}

pub times-append : (x : ℕ) (xs ys : List ℕ) → times x (xs ++ ys) ≡ times x xs + times x ys
times-append x [] ys = omega arith
times-append x (z ∷ zs) ys = let r = times-append x zs ys in omega arith

pub once_more : (x n : ℕ) → once_below x (n + 1) ≡ once_below x n + times x (n ∷ [])
once_more x n = elim (cases_eq n x) [
  | inl e ↦
      let a : nat_lt x (n + 1) ≡ true = grind (arith, nat_tests) in
      let b : nat_lt x n ≡ false = grind (arith, nat_tests) in
      let c : nat_eq n x ≡ true = grind (arith, nat_tests) in
      rw (a, b, c) refl
  | inr ne ↦
      let c : nat_eq n x ≡ false = grind (arith, nat_tests) in
      elim (cases_lt x n) [
        | inl l ↦
            let a : nat_lt x (n + 1) ≡ true = grind (arith, nat_tests) in
            let b : nat_lt x n ≡ true = grind (arith, nat_tests) in
            rw (a, b, c) refl
        | inr g ↦
            let a : nat_lt x (n + 1) ≡ false = grind (arith, nat_tests) in
            let b : nat_lt x n ≡ false = grind (arith, nat_tests) in
            rw (a, b, c) refl
      ]
]

pub rises_le : (low : ℕ) (xs : List ℕ) (high higher : ℕ) → RisesBetween low xs high → high ≤ higher → RisesBetween low xs higher
rises_le low [] high higher r h = let a : low ≤ high = r in omega arith
rises_le low (x ∷ xs) high higher r h = (r.0, rises_le (x + 1) xs high higher r.1 h)

pub rises_snoc : (low : ℕ) (xs : List ℕ) (high : ℕ) → RisesBetween low xs high → RisesBetween low (xs ++ high ∷ []) (high + 1)
rises_snoc low [] high r = (r, omega arith)
rises_snoc low (x ∷ xs) high r = (r.0, rises_snoc (x + 1) xs high r.1)

module _ {E : Type 0} where
  -- what is gained by at most one entry
  pub gains_places : (taken whole : List E) (mine : List ℕ) → (whole ≡ taken) ⊎ ((e : E) × (whole ≡ taken ++ e ∷ [])) → (x : ℕ)
      → times x (mine ++ map (λ _. length taken) (drop (length taken) whole)) + once_below x (length taken) ≡ times x mine + once_below x
      (length whole)
  gains_places taken whole mine (inl same) x = rw (same, drop-length taken, append-nil mine) refl
  gains_places taken whole mine (inr more) x =
      rw (more.1, drop-append_seam taken (more.0 ∷ []), length-append taken (more.0 ∷ []))
      (let a = times-append x mine (length taken ∷ []) in let b = once_more x (length taken) in omega arith)

  pub gains_rise : (taken whole : List E) (mine : List ℕ) → (whole ≡ taken) ⊎ ((e : E) × (whole ≡ taken ++ e ∷ []))
      → RisesBetween 0 mine (length taken)
      → RisesBetween 0 (mine ++ map (λ _. length taken) (drop (length taken) whole)) (length whole)
  gains_rise taken whole mine (inl same) r = rw (same, drop-length taken, append-nil mine) r
  gains_rise taken whole mine (inr more) r =
      rw (more.1, drop-append_seam taken (more.0 ∷ []), length-append taken (more.0 ∷ [])) (rises_snoc 0 mine (length taken) r)

pub rises_bound : (low : ℕ) (xs : List ℕ) (high : ℕ) → RisesBetween low xs high → low ≤ high
rises_bound low [] high r = r
rises_bound low (x ∷ xs) high r = let a = r.0 in let b = rises_bound (x + 1) xs high r.1 in omega arith

rises_low : (low higher : ℕ) (xs : List ℕ) (high : ℕ) → low ≤ higher → RisesBetween higher xs high → RisesBetween low xs high
rises_low low higher [] high h r = let a : higher ≤ high = r in omega arith
rises_low low higher (x ∷ xs) high h r = let a = r.0 in (omega arith, r.1)

pub times-insert : (x y : ℕ) (ys : List ℕ) → times x (insert_place y ys) ≡ times x (y ∷ []) + times x ys
times-insert x y [] = omega arith
times-insert x y (z ∷ zs) = placing (nat_lt y z) (times-insert x y zs) where
  placing : (b : Bool) → times x (insert_place y zs) ≡ times x (y ∷ []) + times x zs
      → times x (cond b (y ∷ z ∷ zs) (z ∷ insert_place y zs)) ≡ times x (y ∷ []) + times x (z ∷ zs)
  placing true r = omega arith
  placing false r = omega arith

pub times-merge : (x : ℕ) (xs ys : List ℕ) → times x (merge xs ys) ≡ times x xs + times x ys
times-merge x [] ys = omega arith
times-merge x (z ∷ zs) ys = let a = times-insert x z (merge zs ys) in let r = times-merge x zs ys in omega arith

times_itself : (x : ℕ) (xs : List ℕ) → times x (x ∷ xs) ≡ 1 + times x xs
times_itself x xs = let e : nat_eq x x ≡ true = grind (arith, nat_tests) in rw e refl

rises_insert : (low x : ℕ) (ys : List ℕ) (high : ℕ) → RisesBetween low ys high → low ≤ x → x < high → times x ys ≡ 0
    → RisesBetween low (insert_place x ys) high
rises_insert low x [] high r l h none = (l, omega arith)
rises_insert low x (y ∷ ys) high r l h none = elim (cases_lt x y) [
  | inl lt ↦
      let a : nat_lt x y ≡ true = grind (arith, nat_tests) in
      rw a (l, (omega arith, r.1))
  | inr ge ↦
      let a : nat_lt x y ≡ false = grind (arith, nat_tests) in
      let ne : x ≢ y = λ e. let t = times_itself x ys in let s : times x (y ∷ ys) ≡ times x (x ∷ ys) = ap (λ z. times x (z ∷ ys))
      (sym e) in omega arith in
      let rest : times x ys ≡ 0 = omega arith in
      rw a (r.0, rises_insert (y + 1) x ys high r.1 (omega arith) h rest)
]

pub rises_merge : (low : ℕ) (xs ys : List ℕ) (high : ℕ) → RisesBetween low xs high → RisesBetween low ys high
    → ((x : ℕ) → times x xs + times x ys ≤ 1)
    → RisesBetween low (merge xs ys) high
rises_merge low [] ys high r s apart = s
rises_merge low (x ∷ xs) ys high r s apart =
    let a = r.0 in
    let bound = rises_bound (x + 1) xs high r.1 in
    let m = rises_merge low xs ys high (rises_low low (x + 1) xs high (omega arith) r.1) s (λ z. let p = apart z in omega arith) in
    let t = times-merge x xs ys in let i = times_itself x xs in let p = apart x in
    rises_insert low x (merge xs ys) high m a (omega arith) (omega arith)

pub once_most : (x n : ℕ) → once_below x n ≤ 1
once_most x n = at_most_one (nat_lt x n) where
  at_most_one : (b : Bool) → cond b 1 0 ≤ 1
  at_most_one true = omega arith
  at_most_one false = omega arith

other_first : (x y : ℕ) (ys : List ℕ) → y ≢ x → times x (y ∷ ys) ≡ times x ys
other_first x y ys ne = let e : nat_eq y x ≡ false = grind (arith, nat_tests) in rw e (omega arith)

rises_above : (x low : ℕ) (xs : List ℕ) (high : ℕ) → RisesBetween low xs high → x < low → times x xs ≡ 0
rises_above x low [] high r h = refl
rises_above x low (y ∷ ys) high r h =
    let a = r.0 in
    let rest = rises_above x (y + 1) ys high r.1 (omega arith) in
    other_first x y ys (λ e. omega arith) ∙ rest

-- no place stands twice in a rising list
pub rises_once : (x low : ℕ) (xs : List ℕ) (high : ℕ) → RisesBetween low xs high → times x xs ≤ 1
rises_once x low [] high r = omega arith
rises_once x low (y ∷ ys) high r = elim (cases_eq y x) [
  | inl e ↦
      let t = times_itself x ys in
      let s : times x (y ∷ ys) ≡ times x (x ∷ ys) = ap (λ z. times x (z ∷ ys)) e in
      let above = rises_above x (y + 1) ys high r.1 (omega arith) in omega arith
  | inr ne ↦ let o = other_first x y ys ne in let i = rises_once x (y + 1) ys high r.1 in omega arith
]
