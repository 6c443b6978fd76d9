-- How many numbers of a patch have no row, place by place.
use Rattle.std.proofs.Common.{◌≡◌, ℕ, ◌+◌, ◌<◌, ◌≤◌, true, false, Option, Some, None, List, [], ◌∷◌, take, drop, nat_eq, cond, is_some, inl, inr, refl, sym, ap, ◌∙◌, arith, true≢false}
use Rattle.std.specs.Prelude.{is_none, slice_get}
use Rattle.std.specs.Map.{update}
use Rattle.std.proofs.lemmas.Bool.{cases_eq}
use Rattle.std.proofs.lemmas.List.{drop_more}
use Rattle.std.proofs.lemmas.List.Sums.{sum_by-cons, count_by_more_yes, count_by_more_no}
use Rattle.std.proofs.lemmas.Option.{get_or_from_slice_get, slice_get_within}
use Rattle.ifmap_region.specs.Marks.{row_of}
use Rattle.ifmap_region.specs.Ways.{missing_count}
use Rattle.ifmap_region.proofs.Overs.{row_here, row_apart}

has_none : (o : Option (Option ℕ)) → o ≡ None → is_none o ≡ true
has_none o e = ap is_none e

has_some : (o : Option (Option ℕ)) → is_some o ≡ true → is_none o ≡ false
has_some None h = absurd (true≢false (sym h))
has_some (Some r) h = refl

module _ (rows es : List (ℕ × Option ℕ)) (i n : ℕ) (s : Option ℕ) (count : ℕ) (place : slice_get es i ≡ Some (n, s)) where
  pub missing_yes : row_of rows n ≡ None → count ≡ missing_count rows (take i es) → count + 1 ≡ missing_count rows (take (i + 1) es)
  missing_yes bare is =
      let lt = slice_get_within es i (n, s) place in
      let here = get_or_from_slice_get es i (n, s) (n, s) place in
      let more = count_by_more_yes (λ (e : ℕ × Option ℕ). is_none (row_of rows e.0)) es i (n, s) lt
      (ap (λ (e : ℕ × Option ℕ). is_none (row_of rows e.0)) here ∙ has_none (row_of rows n) bare) in
      omega (arith, is, more)

  pub missing_no : is_some (row_of rows n) ≡ true → count ≡ missing_count rows (take i es) → count ≡ missing_count rows (take (i + 1) es)
  missing_no rowed is =
      let lt = slice_get_within es i (n, s) place in
      let here = get_or_from_slice_get es i (n, s) (n, s) place in
      let more = count_by_more_no (λ (e : ℕ × Option ℕ). is_none (row_of rows e.0)) es i (n, s) lt
      (ap (λ (e : ℕ × Option ℕ). is_none (row_of rows e.0)) here ∙ has_some (row_of rows n) rowed) in
      omega (arith, is, more)

-- one for no row
abbrev one_of : Option (Option ℕ) → ℕ
one_of o = cond (is_none o) 1 0

missing_cons : (rows es : List (ℕ × Option ℕ)) (e : ℕ × Option ℕ)
    → missing_count rows (e ∷ es) ≡ one_of (row_of rows e.0) + missing_count rows es
missing_cons rows es e = sum_by-cons (λ (x : ℕ × Option ℕ). one_of (row_of rows x.0)) e es

-- a row more leaves no more numbers without one
missing_fewer : (rows after : List (ℕ × Option ℕ)) (n : ℕ) → ((q : ℕ) → row_of after q ≡ update nat_eq (row_of rows) n (Some None) q)
    → (es : List (ℕ × Option ℕ)) → missing_count after es ≤ missing_count rows es
missing_fewer rows after n put [] = omega arith
missing_fewer rows after n put (e ∷ es) =
    let rest = missing_fewer rows after n put es in
    elim (cases_eq e.0 n) [
      | inl at ↦
          let here = ap one_of (ap (row_of after) at ∙ row_here rows after (λ _. None) n None put) in
          omega (arith, rest, here, missing_cons rows es e, missing_cons after es e)
      | inr apart ↦
          let same = ap one_of (row_apart rows after (λ _. None) n None put e.0 apart) in
          omega (arith, rest, same, missing_cons rows es e, missing_cons after es e)
    ]

module _ (rows es : List (ℕ × Option ℕ)) (i n : ℕ) (s : Option ℕ) (place : slice_get es i ≡ Some (n, s)) where
  drop_at : drop i es ≡ (n, s) ∷ drop (i + 1) es
  drop_at = drop_more es i (n, s) (slice_get_within es i (n, s) place) ∙ ap (λ (e : ℕ × Option ℕ). e ∷ drop (i + 1) es)
      (get_or_from_slice_get es i (n, s) (n, s) place)

  missing_at : missing_count rows (drop i es) ≡ one_of (row_of rows n) + missing_count rows (drop (i + 1) es)
  missing_at = ap (missing_count rows) drop_at ∙ missing_cons rows (drop (i + 1) es) (n, s)

  -- there is room for a number that is missing
  pub room_some : (spare : ℕ) → row_of rows n ≡ None → missing_count rows (drop i es) ≤ spare → 0 < spare
  room_some spare bare le =
      let one = ap one_of bare in
      omega (arith, le, one, missing_at)

  pub room_same : (spare : ℕ) → missing_count rows (drop i es) ≤ spare → missing_count rows (drop (i + 1) es) ≤ spare
  room_same spare le = omega (arith, le, missing_at)

  pub room_put : (after : List (ℕ × Option ℕ)) (spare left : ℕ) → row_of rows n ≡ None
      → ((q : ℕ) → row_of after q ≡ update nat_eq (row_of rows) n (Some None) q) → spare ≤ left + 1
      → missing_count rows (drop i es) ≤ spare → missing_count after (drop (i + 1) es) ≤ left
  room_put after spare left bare put less le =
      let one = ap one_of bare in
      let fewer = missing_fewer rows after n put (drop (i + 1) es) in
      omega (arith, le, one, missing_at, fewer, less)
