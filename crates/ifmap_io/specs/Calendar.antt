-- The Gregorian calendar and the clock in UTC, for the years 1970 to 9999: the date and the time of day
-- of a second counted from 1970-01-01T00:00:00Z (RFC 3339; ISO 8601; no leap seconds), and its text.
use Rattle.std.specs.Str.{byte}
use Rattle.std.specs.Prelude.{ℕ, zero, suc, ◌+◌, ◌-◌, ◌*◌, ◌/◌, ◌%◌, ◌<◌, ◌≤◌, nat_le, Bool, not, ◌&&◌, ◌||◌, ◌==◌, if◌then◌else◌, List, [], ◌∷◌, ◌++◌, sum, take, slice_index, codes}

-- the last second of the year 9999, which is the greatest moment
abbrev pub last_moment : ℕ
last_moment = 253_402_300_799

-- each fourth year is a leap year, but of those that end a century only each fourth
abbrev pub is_leap : ℕ → Bool
is_leap year = (year % 4 == 0) && (not (year % 100 == 0) || (year % 400 == 0))

-- the lengths in days of the year's twelve months
abbrev pub months : ℕ → List ℕ
months year =
    31 ∷ (if is_leap year then 29 else 28) ∷ 31 ∷ 30 ∷ 31 ∷ 30 ∷ 31 ∷ 31 ∷ 30 ∷ 31 ∷ 30 ∷ 31 ∷ []

-- the days of the n years from 1970 on
unfoldable pub days_of_years : ℕ → ℕ
days_of_years zero = 0
days_of_years (suc n) = days_of_years n + sum (months (1970 + n))

-- a date and a time of day
pub record Civil : Type 0 where
  pub year : ℕ
  pub month : ℕ
  pub day : ℕ
  pub hour : ℕ
  pub minute : ℕ
  pub second : ℕ

-- the calendar has the date, and a clock shows the time
pub record IsCivil (c : Civil) : Type 0 where
  pub year : (1970 ≤ c.year) × (c.year ≤ 9999)
  pub month : (1 ≤ c.month) × (c.month ≤ 12)
  pub day : (1 ≤ c.day) × (c.day ≤ slice_index (months c.year) (c.month - 1))
  pub hour : c.hour < 24
  pub minute : c.minute < 60
  pub second : c.second < 60

-- the days from 1970-01-01 to the date
abbrev pub day_number : Civil → ℕ
day_number c = days_of_years (c.year - 1970) + sum (take (c.month - 1) (months c.year)) + (c.day - 1)

-- the seconds from 1970-01-01T00:00:00Z to the date and the time
abbrev pub second_number : Civil → ℕ
second_number c = day_number c * 86400 + c.hour * 3600 + c.minute * 60 + c.second

-- the last decimal digit, in ASCII
abbrev pub last_digit : ℕ → ℕ
last_digit n = byte "0" + n % 10

-- the last two decimal digits
abbrev pub two_digits : ℕ → List ℕ
two_digits n = last_digit (n / 10) ∷ last_digit n ∷ []

-- the last four decimal digits
abbrev pub four_digits : ℕ → List ℕ
four_digits n = last_digit (n / 1000) ∷ last_digit (n / 100) ∷ two_digits n

-- `YYYY-MM-DDThh:mm:ssZ`
abbrev pub civil_text : Civil → List ℕ
civil_text c =
    four_digits c.year ++ codes "-" ++ two_digits c.month ++ codes "-" ++ two_digits c.day ++ codes "T"
    ++ two_digits c.hour ++ codes ":" ++ two_digits c.minute ++ codes ":" ++ two_digits c.second ++ codes "Z"

-- the greatest number up to n at which f is d at most, or 0
unfoldable pub last_within : (ℕ → ℕ) → ℕ → ℕ → ℕ
last_within f d zero = zero
last_within f d (suc n) = if nat_le (f (suc n)) d then suc n else last_within f d n

-- the whole years from 1970 to a day, which is counted from 1970-01-01
abbrev pub years_to : ℕ → ℕ
years_to day = last_within days_of_years day day

-- the days of a year before a month of it, which is counted from 0
abbrev pub days_before_month : ℕ → ℕ → ℕ
days_before_month year month = sum (take month (months year))

-- the whole months of a year to a day of it, which is counted from 0
abbrev pub months_to : ℕ → ℕ → ℕ
months_to year day = last_within (days_before_month year) day 11

-- the date of a day of a year, which is counted from 0, and the time of a second of a day
abbrev pub civil_in_year : ℕ → ℕ → ℕ → Civil
civil_in_year year day second =
    record {
      year = year;
      month = months_to year day + 1;
      day = day - days_before_month year (months_to year day) + 1;
      hour = second / 3600;
      minute = second % 3600 / 60;
      second = second % 60;
    }

-- the date and the time of a second, which is counted from 1970-01-01T00:00:00Z
unfoldable pub civil_of : ℕ → Civil
civil_of seconds =
    let day = seconds / 86400 in
    civil_in_year (1970 + years_to day) (day - days_of_years (years_to day)) (seconds % 86400)

-- the text of a second
unfoldable pub moment_text : ℕ → List ℕ
moment_text seconds = civil_text (civil_of seconds)
