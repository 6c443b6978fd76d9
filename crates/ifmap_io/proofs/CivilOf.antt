-- `civil_of` gives the date and the time of its second.
use Rattle.std.proofs.Common.{inl, inr, ◌≡◌, ℕ, zero, suc, ◌+◌, ◌-◌, ◌*◌, ◌<◌, ◌≤◌, ◌/◌, ◌%◌, List, [], ◌∷◌, length, take, get_or, refl, sym, ap, ◌∙◌, arith, nat_le}
use Rattle.std.specs.Prelude.{sum}
use Rattle.std.proofs.lemmas.Bool.{cases_Bool, cases_order}
use Rattle.std.proofs.lemmas.List.Sums.{sum_by-cons}
use Rattle.std.proofs.lemmas.Bool.Decides.{nat_tests}
use Rattle.ifmap_io.specs.Calendar.{months, days_of_years, Civil, IsCivil, second_number, last_within, years_to, days_before_month, months_to, civil_in_year, civil_of}
use Rattle.ifmap_io.proofs.CivilFacts.{civil_from, same_parts, sum_of_year}

module _ (f : ℕ → ℕ) where
  -- the number at which f is d at most, and beyond which it is greater
  last_within_is : (d k n : ℕ) → k ≤ n → f k ≤ d → ((j : ℕ) → k < j → d < f j) → last_within f d n ≡ k
  unfolding last_within
  last_within_is d k zero h low high = omega arith
  last_within_is d k (suc n) h low high = elim (cases_Bool (nat_le (f (suc n)) d)) [
    | inl e ↦ rw e (elim (cases_order k (suc n)) [
      | inl same ↦ sym same
      | inr (inl lt) ↦ absurd (let test : f (suc n) ≤ d = grind (arith, nat_tests) in omega (arith, high (suc n) lt))
      | inr (inr gt) ↦ absurd (omega arith)
    ])
    | inr e ↦ rw e (elim (cases_order k (suc n)) [
      | inl same ↦ absurd (let test : d < f (suc n) = grind (arith, nat_tests) in omega (arith, ap f same))
      | inr (inl lt) ↦ last_within_is d k n (omega arith) low high
      | inr (inr gt) ↦ absurd (omega arith)
    ])
  ]

  -- what does not fall from one number to the next
  rises : ((k : ℕ) → f k ≤ f (suc k)) → (k j : ℕ) → k ≤ j → f k ≤ f j
  rises step k zero h = let e : k ≡ 0 = omega arith in omega (arith, ap f e)
  rises step k (suc j) h = elim (cases_order k (suc j)) [
    | inl same ↦ omega (arith, ap f same)
    | inr (inl lt) ↦ omega (arith, rises step k j (omega arith), step j)
    | inr (inr gt) ↦ absurd (omega arith)
  ]

next_year : (k : ℕ) → days_of_years (suc k) ≡ days_of_years k + sum (months (1970 + k))
unfolding days_of_years
next_year k = refl

years_rise : (k : ℕ) → days_of_years k ≤ days_of_years (suc k)
years_rise k = omega (arith, next_year k)

years_have_days : (k : ℕ) → k ≤ days_of_years k
years_have_days zero = omega arith
years_have_days (suc k) = omega (arith, years_have_days k, next_year k, sum_of_year (1970 + k))

next_of_sum : (x : ℕ) (xs : List ℕ) → sum (x ∷ xs) ≡ x + sum xs
next_of_sum x xs = sum_by-cons (λ n. n) x xs

sum_take_rises : (xs : List ℕ) (k : ℕ) → sum (take k xs) ≤ sum (take (suc k) xs)
sum_take_rises [] zero = omega arith
sum_take_rises [] (suc k) = omega arith
sum_take_rises (x ∷ xs) zero = omega arith
sum_take_rises (x ∷ xs) (suc k) = omega (arith, sum_take_rises xs k, next_of_sum x (take k xs), next_of_sum x (take (suc k) xs))

sum_take_next : (xs : List ℕ) (k : ℕ) → k < length xs → sum (take (suc k) xs) ≡ sum (take k xs) + get_or xs k 0
sum_take_next [] k h = absurd (omega (arith, h))
sum_take_next (x ∷ xs) zero h = omega arith
sum_take_next (x ∷ xs) (suc k) h = omega (
  arith,
  sum_take_next xs k (omega arith),
  next_of_sum x (take k xs),
  next_of_sum x (take (suc k) xs),
)

months_rise : (year k j : ℕ) → k ≤ j → days_before_month year k ≤ days_before_month year j
months_rise year = rises (days_before_month year) (sum_take_rises (months year))

next_month : (year k : ℕ) → k < 12 → days_before_month year (suc k) ≡ days_before_month year k + get_or (months year) k 0
next_month year k h = sum_take_next (months year) k h

whole_year : (year : ℕ) → days_before_month year 12 ≡ sum (months year)
whole_year year = refl

by_day : (s day second : ℕ) → s / 86400 ≡ day → s % 86400 ≡ second
    → civil_of s ≡ civil_in_year (1970 + years_to day) (day - days_of_years (years_to day)) second
unfolding civil_of
by_day s day second e f = rw (e, f) refl

by_year : (day second years : ℕ) → years_to day ≡ years → civil_in_year (1970 + years_to day) (day - days_of_years (years_to day)) second
    ≡ civil_in_year (1970 + years) (day - days_of_years years) second
by_year day second years e = rw e refl

by_month : (year day second month : ℕ) → months_to year day ≡ month
    → civil_in_year year day second
    ≡ civil_from year (month + 1) (day - days_before_month year month + 1) (second / 3600) (second % 3600 / 60) (second % 60)
by_month year day second month e = rw e refl

-- the day of a year is one of a month of it
month_is : (year month day : ℕ) → month < 12 → day < get_or (months year) month 0
    → months_to year (days_before_month year month + day) ≡ month
month_is year month day h d =
    last_within_is (days_before_month year) (days_before_month year month + day) month 11 (omega arith) (omega arith)
    (λ j l. omega (arith, next_month year month h, months_rise year (suc month) j (omega arith)))

-- the days from 1970 on are those of a year
year_is : (years day : ℕ) → day < sum (months (1970 + years)) → years_to (days_of_years years + day) ≡ years
year_is years day h =
    last_within_is days_of_years (days_of_years years + day) years (days_of_years years + day)
    (omega (arith, years_have_days years)) (omega arith)
    (λ j l. omega (arith, next_year years, rises days_of_years years_rise (suc years) j (omega arith)))

within_year : (year month day : ℕ) → month < 12 → day < get_or (months year) month 0
    → days_before_month year month + day < sum (months year)
within_year year month day h d = omega (arith, next_month year month h, months_rise year (suc month) 12 (omega arith), whole_year year)

-- of the parts, with the year minus-plus from 1970, and the month and the day from 0
parts_are : (years month day h m s : ℕ) → month < 12 → day < get_or (months (1970 + years)) month 0 → h < 24 → m < 60 → s < 60
    → civil_of ((days_of_years years + (days_before_month (1970 + years) month + day)) * 86400 + h * 3600 + m * 60 + s)
    ≡ civil_from (1970 + years) (month + 1) (day + 1) h m s
parts_are years month day h m s small short a b c =
    let year = 1970 + years in
    let rest = days_before_month year month + day in
    let all = days_of_years years + rest in
    let second = h * 3600 + m * 60 + s in
    by_day (all * 86400 + h * 3600 + m * 60 + s) all second (omega arith) (omega arith)
    ∙ by_year all second years (year_is years rest (within_year year month day small short))
    ∙ ap (λ x. civil_in_year year x second) (let e : all - days_of_years years ≡ rest = omega arith in e)
    ∙ by_month year rest second month (month_is year month day small short)
    ∙ same_parts year (month + 1) (rest - days_before_month year month + 1) (second / 3600) (second % 3600 / 60) (second % 60)
    year (month + 1) (day + 1) h m s refl refl (omega arith) (omega arith) (omega arith) (omega arith)

-- the year, the month and the day, which are minus-plus from 1970 and from 1, are those of the parts
minus-plus : (a b : ℕ) → b ≤ a → b + (a - b) ≡ a
minus-plus a b h = omega arith

-- a date and a time are those of their second
pub civil_of_is : (c : Civil) → IsCivil c → civil_of (second_number c) ≡ c
civil_of_is c g =
    let year = minus-plus c.year 1970 g.year.0 in
    let short : c.day - 1 < get_or (months (1970 + (c.year - 1970))) (c.month - 1) 0 =
    rw year (omega (arith, g.day.0, g.day.1)) in
    let h = parts_are (c.year - 1970) (c.month - 1) (c.day - 1) c.hour c.minute c.second (omega (arith, g.month.0, g.month.1)) short g.hour
    g.minute g.second in
    let days = days_of_years (c.year - 1970) + (days_before_month c.year (c.month - 1) + (c.day - 1)) in
    let e : second_number c ≡ days * 86400 + c.hour * 3600 + c.minute * 60 + c.second = omega arith in
    ap civil_of e
    ∙ (rw year at h)
    ∙ same_parts c.year (c.month - 1 + 1) (c.day - 1 + 1) c.hour c.minute c.second c.year c.month c.day c.hour c.minute c.second refl
    (omega (arith, g.month.0)) (omega (arith, g.day.0)) refl refl refl
