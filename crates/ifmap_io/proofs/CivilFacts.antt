-- The calendar of specs/ beside the one that the library `jiff` computes.
-- First the lengths of months and years of both, and so the days before a date (`days_before`). Then a second
-- has one date and time (`same_civil`), since later dates have more days before them. Last, what the library
-- shows for a second is its date and time (`shows`).
use Rattle.std.proofs.Common.{inl, inr, ◌≡◌, ℕ, zero, suc, ◌+◌, ◌-◌, ◌*◌, ◌<◌, ◌≤◌, List, [], ◌∷◌, take, get_or, refl, sym, ◌∙◌, subst, arith, nat_lt, ℤ, pos, negsuc, ◌+ℤ◌, ◌*ℤ◌, ◌≤ℤ◌, unsigned_abs, cond}
use Rattle.std.specs.Prelude.{sum}
use Rattle.std.proofs.lemmas.Bool.{cases_order}
use Rattle.std.proofs.lemmas.Int.{by_lt_z}
use Rattle.jiff_core.specs.declared.civil.datetime.DateTime.{DateTime}
use Rattle.jiff_core.specs.Calendar.{days_from_civil, day_count, days_in_month, IsCivilDate, IsYear}
use Rattle.jiff_core.specs.Calendar as theirs
use Rattle.jiff_core.specs.Date.{IsYmd}
use Rattle.jiff_core.specs.DateTime.{civil_nanos}
use Rattle.jiff_core.specs.Time.{IsHms, time_seconds}
use Rattle.jiff_core.proofs.SignedLemmas.{signed_arith}
use Rattle.jiff_core.proofs.MarchLemmas.{leap_day, leap_day-shift, days_of_years-suc, days_of_years-march_days}
use Rattle.jiff_core.proofs.CalendarLemmas.{days_from_civil-day_count, day_count-epoch, days_of_months_table, day_count-lt_year, day_count-lt_month, day_count-day}
use Rattle.ifmap_io.specs.Calendar.{months, days_of_years, Civil, IsCivil, day_number, second_number}

-- the first second of 1970 has the number 0
pub starts_at_zero : (dt : DateTime) → IsYmd (pos 1970) (pos 1) (pos 1) dt.date → IsHms (pos 0) (pos 0) (pos 0) (pos 0) dt.time
    → civil_nanos dt ≡ pos 0
unfolding civil_nanos
starts_at_zero dt d t =
    let m : dt.date.month ≡ 1 = omega (arith, signed_arith, d.1) in
    let n : dt.date.day ≡ 1 = omega (arith, signed_arith, d.2) in
    rw (d.0, m, n) (omega (arith, signed_arith, days_from_civil-day_count (pos 1970) 1 1, day_count-epoch, t.0, t.1, t.2, t.3))

pub sum_of_year : (n : ℕ) → sum (months n) ≡ 365 + leap_day (pos n)
sum_of_year n = grind arith

-- a claim on the twelve months, counted from 0
each_month : (P : ℕ → Type 0)
    → P 0 → P 1 → P 2 → P 3 → P 4 → P 5 → P 6 → P 7 → P 8 → P 9 → P 10 → P 11 → (k : ℕ) → k < 12 → P k
each_month P a b c d e f g h i j k l zero s = a
each_month P a b c d e f g h i j k l (suc zero) s = b
each_month P a b c d e f g h i j k l (suc (suc zero)) s = c
each_month P a b c d e f g h i j k l (suc (suc (suc zero))) s = d
each_month P a b c d e f g h i j k l (suc (suc (suc (suc zero)))) s = e
each_month P a b c d e f g h i j k l (suc (suc (suc (suc (suc zero))))) s = f
each_month P a b c d e f g h i j k l (suc (suc (suc (suc (suc (suc zero)))))) s = g
each_month P a b c d e f g h i j k l (suc (suc (suc (suc (suc (suc (suc zero))))))) s = h
each_month P a b c d e f g h i j k l (suc (suc (suc (suc (suc (suc (suc (suc zero)))))))) s = i
each_month P a b c d e f g h i j k l (suc (suc (suc (suc (suc (suc (suc (suc (suc zero))))))))) s = j
each_month P a b c d e f g h i j k l (suc (suc (suc (suc (suc (suc (suc (suc (suc (suc zero)))))))))) s = k
each_month P a b c d e f g h i j k l (suc (suc (suc (suc (suc (suc (suc (suc (suc (suc (suc zero))))))))))) s = l
each_month P a b c d e f g h i j k l (suc (suc (suc (suc (suc (suc (suc (suc (suc (suc (suc (suc m)))))))))))) s = absurd (omega arith)

-- the table of the days before each month
abbrev days_before_months : List ℕ
days_before_months = 0 ∷ 31 ∷ 59 ∷ 90 ∷ 120 ∷ 151 ∷ 181 ∷ 212 ∷ 243 ∷ 273 ∷ 304 ∷ 334 ∷ []

sum_of_months : (n k : ℕ) → k < 12
    → sum (take k (months n)) ≡ get_or days_before_months k 0 + cond (nat_lt 1 k) (leap_day (pos n)) 0
sum_of_months n =
    each_month (λ k. sum (take k (months n)) ≡ get_or days_before_months k 0 + cond (nat_lt 1 k) (leap_day (pos n)) 0)
    (grind arith) (grind arith) (grind arith) (grind arith) (grind arith) (grind arith)
    (grind arith) (grind arith) (grind arith) (grind arith) (grind arith) (grind arith)

months_before : (n k : ℕ) → k < 12 → theirs.days_of_months (pos n) k ≡ sum (take k (months n))
months_before n k h = days_of_months_table (pos n) k h ∙ sym (sum_of_months n k h)

month_length_at : (n k : ℕ) → k < 12 → get_or (months n) k 0 ≡ days_in_month (pos n) (suc k)
month_length_at n =
    each_month (λ k. get_or (months n) k 0 ≡ days_in_month (pos n) (suc k))
    (grind arith) (grind arith) (grind arith) (grind arith) (grind arith) (grind arith)
    (grind arith) (grind arith) (grind arith) (grind arith) (grind arith) (grind arith)

pub month_length : (n m : ℕ) → 1 ≤ m → m ≤ 12 → get_or (months n) (m - 1) 0 ≡ days_in_month (pos n) m
month_length n m low high =
    let back : suc (m - 1) ≡ m = omega arith in
    rw back at (month_length_at n (m - 1) (omega arith))

-- the library counts the years from -10000
years_from_1970 : (k : ℕ) → theirs.days_of_years (k + 11970) ≡ days_of_years k + 4371953
unfolding days_of_years
years_from_1970 zero =
    let e : 0 + 11970 ≡ 11970 = refl in
    omega (arith, days_of_years-march_days 11970)
years_from_1970 (suc k) =
    let next : suc k + 11970 ≡ suc (k + 11970) = omega arith in
    let shift = leap_day-shift (pos (1970 + k)) (k + 11970) (omega (arith, signed_arith)) in
    rw next (omega (arith, years_from_1970 k, days_of_years-suc (k + 11970), sum_of_year (1970 + k)))

-- the days before a date, by the calendar of specs/ and by the library
pub days_before : (n m d : ℕ) → 1970 ≤ n → 1 ≤ m → m ≤ 12 → 1 ≤ d
    → day_count (pos n) m d ≡ days_of_years (n - 1970) + sum (take (m - 1) (months n)) + (d - 1) + 4371953
unfolding day_count
days_before n m d year low high first =
    let back : unsigned_abs (pos n +ℤ pos 10000) ≡ n - 1970 + 11970 = omega (arith, signed_arith) in
    rw back (omega (arith, years_from_1970 (n - 1970), months_before n (m - 1) (omega arith)))

-- `IsCivil` is the library's date
civil_date : (c : Civil) → IsCivil c → IsCivilDate (pos c.year) c.month c.day
civil_date c h =
    let length_is = month_length c.year c.month h.month.0 h.month.1 in (
      (omega (arith, signed_arith, h.year.1), omega (arith, signed_arith, h.year.1)),
      (h.month.0, h.month.1),
      (h.day.0, rw (← length_is) h.day.1),
    )

-- no later year, month or day has as many days before it
same_year : (n m d n₂ m₂ d₂ : ℕ) → IsCivilDate (pos n) m d → IsCivilDate (pos n₂) m₂ d₂ → day_count (pos n) m d ≡ day_count (pos n₂) m₂ d₂
    → n ≡ n₂
same_year n m d n₂ m₂ d₂ h k e = elim (cases_order n n₂) [
  | inl same ↦ same
  | inr (inl lt) ↦ absurd (omega (arith, day_count-lt_year (pos n) m d (pos n₂) m₂ d₂ h k.2.0 (omega (arith, signed_arith))))
  | inr (inr gt) ↦ absurd (omega (arith, day_count-lt_year (pos n₂) m₂ d₂ (pos n) m d k h.2.0 (omega (arith, signed_arith))))
]

same_month : (n m d m₂ d₂ : ℕ) → IsCivilDate (pos n) m d → IsCivilDate (pos n) m₂ d₂ → day_count (pos n) m d ≡ day_count (pos n) m₂ d₂
    → m ≡ m₂
same_month n m d m₂ d₂ h k e = elim (cases_order m m₂) [
  | inl same ↦ same
  | inr (inl lt) ↦ absurd (omega (arith, day_count-lt_month (pos n) m d m₂ d₂ h k.2.0 lt))
  | inr (inr gt) ↦ absurd (omega (arith, day_count-lt_month (pos n) m₂ d₂ m d k h.2.0 gt))
]

same_day : (n m d d₂ : ℕ) → 1 ≤ d → 1 ≤ d₂ → day_count (pos n) m d ≡ day_count (pos n) m d₂ → d ≡ d₂
same_day n m d d₂ h k e = omega (arith, day_count-day (pos n) m d d₂ h k)

same_date : (n m d n₂ m₂ d₂ : ℕ) → IsCivilDate (pos n) m d → IsCivilDate (pos n₂) m₂ d₂ → day_count (pos n) m d ≡ day_count (pos n₂) m₂ d₂
    → (n ≡ n₂) × (m ≡ m₂) × (d ≡ d₂)
same_date n m d n₂ m₂ d₂ h k e =
    let y = same_year n m d n₂ m₂ d₂ h k e in
    let h₂ : IsCivilDate (pos n₂) m d = subst (λ x. IsCivilDate (pos x) m d) y h in
    let e₂ : day_count (pos n₂) m d ≡ day_count (pos n₂) m₂ d₂ = subst (λ x. day_count (pos x) m d ≡ day_count (pos n₂) m₂ d₂) y e in
    let z = same_month n₂ m d m₂ d₂ h₂ k e₂ in
    let e₃ : day_count (pos n₂) m₂ d ≡ day_count (pos n₂) m₂ d₂ = subst (λ x. day_count (pos n₂) x d ≡ day_count (pos n₂) m₂ d₂) z e₂ in
    (y, z, same_day n₂ m₂ d d₂ h.2.0 k.2.0 e₃)

-- a second of the day has one hour, minute and second
same_time : (d h m s d₂ h₂ m₂ s₂ : ℕ) → h < 24 → m < 60 → s < 60 → h₂ < 24 → m₂ < 60 → s₂ < 60
    → d * 86400 + h * 3600 + m * 60 + s ≡ d₂ * 86400 + h₂ * 3600 + m₂ * 60 + s₂ → (d ≡ d₂) × (h ≡ h₂) × (m ≡ m₂) × (s ≡ s₂)
same_time d h m s d₂ h₂ m₂ s₂ a b c a₂ b₂ c₂ e =
    (omega arith, omega arith, omega arith, omega arith)

days_before_civil : (c : Civil) → IsCivil c → day_count (pos c.year) c.month c.day ≡ day_number c + 4371953
days_before_civil c h = days_before c.year c.month c.day h.year.0 h.month.0 h.month.1 h.day.0

abbrev pub civil_from : ℕ → ℕ → ℕ → ℕ → ℕ → ℕ → Civil
civil_from y m d h n s = record { year = y; month = m; day = d; hour = h; minute = n; second = s }

pub same_parts : (y m d h n s y₂ m₂ d₂ h₂ n₂ s₂ : ℕ) → y ≡ y₂ → m ≡ m₂ → d ≡ d₂ → h ≡ h₂ → n ≡ n₂ → s ≡ s₂
    → civil_from y m d h n s ≡ civil_from y₂ m₂ d₂ h₂ n₂ s₂
same_parts y m d h n s y₂ m₂ d₂ h₂ n₂ s₂ a b c e f g = rw (a, b, c, e, f, g)

-- a second has one date and time
pub same_civil : (a b : Civil) → IsCivil a → IsCivil b → second_number a ≡ second_number b → a ≡ b
same_civil a b h k e =
    let t = same_time (day_number a) a.hour a.minute a.second (day_number b) b.hour b.minute b.second h.hour h.minute h.second k.hour
    k.minute k.second e in
    let d = same_date a.year a.month a.day b.year b.month b.day (civil_date a h) (civil_date b k)
    (omega (arith, days_before_civil a h, days_before_civil b k, t.0)) in
    same_parts a.year a.month a.day a.hour a.minute a.second b.year b.month b.day b.hour b.minute b.second d.0 d.1 d.2 t.1 t.2 t.3

-- the library's nanoseconds of a date and a time give its days from 1970 and its second
from_nanos : (y : ℤ) (m d t u s : ℕ) → t < 86400 → u < 1000000000
    → days_from_civil y m d *ℤ pos 86400000000000 +ℤ pos (t * 1000000000 + u) ≡ pos (s * 1000000000)
    → (4371953 ≤ day_count y m d) × ((day_count y m d - 4371953) * 86400 + t ≡ s)
from_nanos y m d t u s a b e =
    let days = days_from_civil-day_count y m d in
    (omega (arith, signed_arith), omega (arith, signed_arith))

-- a day from 1970 on is in a year from 1970 on
from_1970 : (y : ℤ) (m d : ℕ) → IsCivilDate y m d → 4371953 ≤ day_count y m d → pos 1970 ≤ℤ y
from_1970 y m d h low = by_lt_z y (pos 1970)
    (λ lt. absurd (omega (arith, day_count-lt_year y m d (pos 1970) 1 1 h (omega arith) lt, day_count-epoch)))
    (λ le. le)

-- so the library's date is one of the calendar of specs/
shown_date : (y : ℤ) (m d h n s : ℕ) → IsCivilDate y m d → h < 24 → n < 60 → s < 60 → 4371953 ≤ day_count y m d
    → IsCivil (civil_from (unsigned_abs y) m d h n s) × (day_count y m d ≡ day_number (civil_from (unsigned_abs y) m d h n s) + 4371953)
shown_date (pos y) m d h n s date a b c low =
    let year : 1970 ≤ y = omega (arith, signed_arith, from_1970 (pos y) m d date low) in
    let last : y ≤ 9999 = omega (arith, signed_arith, date.0.1) in
    let length_is = month_length y m date.1.0 date.1.1 in (
      record { year = (year, last); month = date.1; day = (date.2.0, rw length_is date.2.1); hour = a; minute = b; second = c },
      days_before y m d year date.1.0 date.1.1 date.2.0,
    )
shown_date (negsuc y) m d h n s date a b c low =
    absurd (omega (arith, signed_arith, from_1970 (negsuc y) m d date low))

abbrev pub civil_seen_by : DateTime → Civil
civil_seen_by dt = record {
  year = unsigned_abs dt.date.year;
  month = dt.date.month;
  day = dt.date.day;
  hour = dt.time.hour;
  minute = dt.time.minute;
  second = dt.time.second;
}

-- what the library shows for a second is its date and time
pub shows : (dt : DateTime) (s : ℕ) → civil_nanos dt ≡ pos (s * 1000000000)
    → IsCivil (civil_seen_by dt) × (second_number (civil_seen_by dt) ≡ s)
unfolding civil_nanos
shows dt s e =
    let t = from_nanos dt.date.year dt.date.month dt.date.day (time_seconds dt.time) dt.time.subsec_nanosecond s
    (omega (arith, dt.time.hour_in, dt.time.minute_in, dt.time.second_in)) dt.time.subsec_in e in
    let c = shown_date dt.date.year dt.date.month dt.date.day dt.time.hour dt.time.minute dt.time.second (
      dt.date.year_in,
      dt.date.month_in,
      dt.date.day_in,
    ) dt.time.hour_in dt.time.minute_in dt.time.second_in t.0 in
    (c.0, omega (arith, t.1, c.1))
