-- A walk along what is stored and what of it is taken: what is not taken and meets a test is met.
use Rattle.std.proofs.Common.{◌≡◌, ◌∙◌, refl, sym, ap, subst, ℕ, ◌+◌, ◌<◌, ◌≤◌, suc, Bool, true, false, cond, not, ◌&&◌, ◌||◌, List, [], ◌∷◌, ◌++◌}
use Rattle.std.proofs.Common.{Option, None, Some, MatchOption, arith, drop, get_or, inl, inr, length, take}
use Rattle.std.proofs.lemmas.Bool.{cases_Bool}
use Rattle.std.proofs.lemmas.List.{append-nil, drop_more}
use Rattle.std.specs.List.{filter}
use Rattle.std.specs.List.Sorted.{IsStrictlySortedBy}
use Rattle.std.specs.Ordering.{is_eq}
use Rattle.std.specs.declared.cmp.Ordering.TheVariants.{Less, Equal}
use Rattle.ifmap_lemmas.specs.Filtered.{filter_agrees}
use Rattle.ifmap_lemmas.specs.Filters.{all_filter, filter_shorter}
use Rattle.ifmap_lemmas.specs.Having.{filter_has}
use Rattle.ifmap_lemmas.specs.Stepping.{kept_more, passed_more}
use Rattle.ifmap_meta.specs.declared.stored.Stored.{Stored}
use Rattle.ifmap_rows.specs.ifmap_plans.Lists.{is_among, put_each}
use Rattle.ifmap_view.specs.Attachments.{stored_order}
use Rattle.ifmap_publish.specs.Working.{PassesOneStored, after_like}
use Rattle.ifmap_publish.proofs.Differing.{AllAbove, itself, sorted_first, less_is_greater}
use Rattle.ifmap_publish.proofs.Gathering.{put_found}
use Rattle.ifmap_publish.proofs.Passing.{sorted_drop}
use Rattle.ifmap_publish.proofs.Rising.{among_filter}

none_like : (s : Stored) (xs : List Stored) → AllAbove s xs → after_like s xs ≡ None
none_like s [] all = refl
none_like s (x ∷ xs) all = ap (λ o. cond (is_eq o) (Some xs) None) (less_is_greater s x all.0)

some_like : (s : Stored) (xs : List Stored) → after_like s (s ∷ xs) ≡ Some xs
some_like s xs = ap (λ o. cond (is_eq o) (Some xs) None) (itself s)

-- what follows the first
pub some_after : (row first : Stored) (after rows : List Stored) → rows ≡ first ∷ after → stored_order first row ≡ Equal
    → after_like row rows ≡ Some after
some_after row first after rows is e = ap (after_like row) is ∙ ap (λ o. cond (is_eq o) (Some after) None) e

pub other_after : (row first : Stored) (after rows : List Stored) → rows ≡ first ∷ after → is_eq (stored_order first row) ≡ false
    → after_like row rows ≡ None
other_after row first after rows is e = ap (after_like row) is ∙ ap (λ b. cond b (Some after) None) e

abbrev Case : (Stored → Bool) → Stored → List Stored → List Stored → List Stored → List Stored → Option (List Stored) → Type 0
Case k row rest rest2 met met2 o =
    MatchOption o ((rest2 ≡ rest) × (met2 ≡ met ++ filter k (row ∷ []))) (λ after. (rest2 ≡ after) × (met2 ≡ met))

pub passes_over : (k : Stored → Bool) (row : Stored) (taken after met : List Stored) → after_like row taken ≡ Some after
    → PassesOneStored k row taken after met met
passes_over k row taken after met e = subst (Case k row taken after met met) (sym e) (refl, refl)

pub passes_by : (k : Stored → Bool) (row : Stored) (taken met next : List Stored) → after_like row taken ≡ None
    → next ≡ met ++ filter k (row ∷ []) → PassesOneStored k row taken taken met next
passes_by k row taken met next e is = subst (Case k row taken taken met next) (sym e) (refl, is)

pub met_not : (k : Stored → Bool) (row : Stored) (met : List Stored) → k row ≡ false → met ≡ met ++ filter k (row ∷ [])
met_not k row met e = sym (append-nil met) ∙ ap (λ b. met ++ cond b (row ∷ []) []) (sym e)

pub met_too : (k : Stored → Bool) (row : Stored) (met next : List Stored) → k row ≡ true → next ≡ met ++ row ∷ []
    → next ≡ met ++ filter k (row ∷ [])
met_too k row met next e is = is ∙ ap (λ b. met ++ cond b (row ∷ []) []) (sym e)

-- one row is passed
module _ (t k : Stored → Bool) (rows : List Stored) (up : IsStrictlySortedBy stored_order rows) (i : ℕ) (row : Stored)
    (low : i < length rows) (at : row ≡ get_or rows i row) (rest met rest2 met2 : List Stored) (left : rest ≡ filter t (drop i rows))
    (so : met ≡ filter (λ s. not (t s) && k s) (take i rows)) (passes : PassesOneStored k row rest rest2 met met2) where
  abbrev p : Stored → Bool
  p s = not (t s) && k s

  abbrev later : List Stored
  later = drop (i + 1) rows

  front : drop i rows ≡ row ∷ later
  front = subst (λ y. drop i rows ≡ y ∷ later) (sym at) (drop_more rows i row low)

  above : AllAbove row (filter t later)
  above = all_filter (λ y. stored_order row y ≡ Less) t later
      (sorted_first row later (subst (IsStrictlySortedBy stored_order) front (sorted_drop i rows up))).0

  rest_is : rest ≡ cond (t row) (row ∷ filter t later) (filter t later)
  rest_is = left ∙ ap (filter t) front

  keeps_one_met : (b : Bool) → t row ≡ false → k row ≡ b → met2 ≡ met ++ cond b (row ∷ []) [] → met2 ≡ filter p (take (i + 1) rows)
  keeps_one_met true n y e = e ∙ kept_more p rows i row low at met so (λ j. not (n j) && y j)
  keeps_one_met false n y e = e ∙ append-nil met ∙ passed_more p rows i row low at met so (λ j. not (n j) && y j)

  pub row_passed : (rest2 ≡ filter t later) × (met2 ≡ filter p (take (i + 1) rows))
  row_passed = elim (cases_Bool (t row)) [
    | inl y ↦
        let here : rest ≡ row ∷ filter t later = rest_is ∙ ap (λ b. cond b (row ∷ filter t later) (filter t later)) y in
        let case : Case k row rest rest2 met met2 (Some (filter t later)) =
        subst (Case k row rest rest2 met met2) (ap (after_like row) here ∙ some_like row (filter t later)) passes in (
          case.0,
          case.1 ∙ passed_more p rows i row low at met so (ap (λ b. not b && k row) y),
        )
    | inr n ↦
        let here : rest ≡ filter t later = rest_is ∙ ap (λ b. cond b (row ∷ filter t later) (filter t later)) n in
        let case : Case k row rest rest2 met met2 None =
        subst (Case k row rest rest2 met met2) (ap (after_like row) here ∙ none_like row (filter t later) above) passes in (
          case.0 ∙ here,
          keeps_one_met (k row) n refl case.1,
        )
  ]

all_pass : (t k : Stored → Bool) (xs : List Stored) → length (filter t xs) ≡ length xs → [] ≡ filter (λ s. not (t s) && k s) xs
all_pass t k [] e = refl
all_pass t k (x ∷ xs) e = elim (cases_Bool (t x)) [
  | inl y ↦
      let here : filter t (x ∷ xs) ≡ x ∷ filter t xs = rw y refl in
      let long : suc (length (filter t xs)) ≡ suc (length xs) = sym (ap length here) ∙ e in
      let same : length (filter t xs) ≡ length xs = omega (arith, long) in
      all_pass t k xs same
      ∙ sym (ap (λ b. cond (not b && k x) (x ∷ filter (λ s. not (t s) && k s) xs) (filter (λ s. not (t s) && k s) xs)) y)
  | inr n ↦
      let here : filter t (x ∷ xs) ≡ filter t xs = rw n refl in
      let long : length (filter t xs) ≡ suc (length xs) = sym (ap length here) ∙ e in
      let less : length (filter t xs) ≤ length xs = filter_shorter t xs in
      absurd (omega (arith, long, less))
]

pub all_taken : (taken rows : List Stored) (k : Stored → Bool) → taken ≡ filter (is_among taken) rows → length taken ≡ length rows
    → [] ≡ filter (λ s. not (is_among taken s) && k s) rows
all_taken taken rows k is same = all_pass (is_among taken) k rows (sym (ap length is) ∙ same)

-- what is met is taken with what was
or_other : (a b : Bool) → (a || (not a && b)) ≡ (a || b)
or_other true b = refl
or_other false b = refl

pub met_taken : (stored taken met : List Stored) (k : Stored → Bool) → IsStrictlySortedBy stored_order stored
    → taken ≡ filter (is_among taken) stored → met ≡ filter (λ s. not (is_among taken s) && k s) stored
    → put_each met taken ≡ filter (λ s. is_among taken s || k s) stored
met_taken stored taken met k up is so =
    let t = is_among taken in
    let p : Stored → Bool = λ s. not (is_among taken s) && k s in
    ap (λ l. put_each l taken) so
    ∙ ap (put_each (filter p stored)) is
    ∙ put_found stored up t (filter p stored) (λ s h. (filter_has p stored s h).0)
    ∙ filter_agrees (λ s. t s || is_among (filter p stored) s) (λ s. t s || k s) stored
    (λ s h. ap (λ b. t s || b) (among_filter p stored up s h) ∙ or_other (t s) (k s))
