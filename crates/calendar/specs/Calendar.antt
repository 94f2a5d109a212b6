-- The Gregorian calendar by its rule (document 02, S-4: "Day numbers become Gregorian dates and back"). A day is a number, counted from 1 January 2000
-- as 0 (document 01, "Whole pages, keeping, program"); a date is a year, a month from 1 to 12 and a day of the month from 1 on. The calendar ends in no
-- year here: which days and years are refused is said in Calls.antt.
use Rattle.std.specs.Prelude.{ℕ, zero, suc, ◌+◌, ◌-◌, ◌%◌, Bool, not, ◌&&◌, ◌||◌, List, [], ◌∷◌, leb, ltb, eqb, get_or}
use Rattle.scope.specs.Refusals.{pick}

-- whether n divides a year
abbrev pub divides : (n year : ℕ) → Bool
divides n year = eqb (year % n) 0

-- a leap year: 4 divides it and 100 does not, or 400 does
unfoldable pub leap : (year : ℕ) → Bool
leap year = (divides 4 year && not (divides 100 year)) || divides 400 year

-- the lengths of the months in days, from January to December, of a leap year and of any other
abbrev pub month_lengths : (in-leap-year : Bool) → List ℕ
month_lengths l = 31 ∷ pick l 29 28 ∷ 31 ∷ 30 ∷ 31 ∷ 30 ∷ 31 ∷ 31 ∷ 30 ∷ 31 ∷ 30 ∷ 31 ∷ []

-- the length of a month, months counted from 1; what it says of another month does not count, since the calendar has no date there
unfoldable pub month_length : (year month : ℕ) → ℕ
month_length year month = get_or (month_lengths (leap year)) (month - 1) 0

-- a date; its day is that of the month
pub record Date : Type 0 where
  pub year : ℕ
  pub month : ℕ
  pub day : ℕ

-- the date of a year, a month and a day of the month
abbrev pub date : (year month day : ℕ) → Date
date y m d = record { year = y; month = m; day = d }

-- whether the calendar has the date
unfoldable pub on_calendar : Date → Bool
on_calendar d = leb 1 d.month && leb d.month 12 && leb 1 d.day && leb d.day (month_length d.year d.month)

-- whether a date is another or before it: by the year, in one year by the month, in one month by the day
unfoldable pub on_or_before : Date → Date → Bool
on_or_before d e =
    ltb d.year e.year || (eqb d.year e.year && (ltb d.month e.month || (eqb d.month e.month && leb d.day e.day)))

-- the same day of the next month, whether that month has it or not; after December comes January of the next year
unfoldable pub next_month : Date → Date
next_month d = pick (ltb d.month 12) (date d.year (d.month + 1) d.day) (date (d.year + 1) 1 d.day)

-- the first day of a date's month
abbrev pub first_of_month : Date → Date
first_of_month d = date d.year d.month 1

-- the date of the next day: a day on in its month, and after the month's last day the next month's first
unfoldable pub next_day : Date → Date
next_day d =
    pick (ltb d.day (month_length d.year d.month)) (date d.year d.month (d.day + 1)) (first_of_month (next_month d))

-- the date of a day: 1 January 2000 is day 0, and each day has the date after that of the day before
unfoldable pub date_on : (day : ℕ) → Date
date_on zero = date 2000 1 1
date_on (suc n) = next_day (date_on n)

-- the days of the first n months of a year
unfoldable pub days_of_months : (year n : ℕ) → ℕ
days_of_months year zero = 0
days_of_months year (suc n) = days_of_months year n + month_length year (suc n)

-- the days of the n years from 2000 on
unfoldable pub days_of_years : (n : ℕ) → ℕ
days_of_years zero = 0
days_of_years (suc n) = days_of_years n + days_of_months (2000 + n) 12

-- the day of a date: how many days come before it, in the years, months and days that are over
unfoldable pub day_of : Date → ℕ
day_of d = days_of_years (d.year - 2000) + days_of_months d.year (d.month - 1) + (d.day - 1)
