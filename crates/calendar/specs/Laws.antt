-- What is claimed of days and dates (document 02, S-4), of all of them at a stroke. Proved as `days_and_dates` in proofs/Claimed.antt.
use Rattle.std.specs.Prelude.{ℕ, ◌≤◌, ◌<◌, ◌≡◌, ◌↔◌, true, leb}
use Rattle.scope.specs.Limits.{first_year, last_year, last_day}
use Rattle.scope.specs.Refusals.{day_range}
use Rattle.calendar.specs.Calendar.{Date, date, on_calendar, on_or_before, date_on, day_of}
use Rattle.calendar.specs.Calls.{Dated, Dated.dated, Numbered, Numbered.numbered, to_date, to_day}

pub record DaysAndDates : Type 0 where
  -- the two ways of counting, by the next date and by the days that are over, are each other's inverse, from 2000 on and without a last year
  pub calendar_has : (n : ℕ) → (on_calendar (date_on n) ≡ true) × (first_year ≤ (date_on n).year)
  pub day_again : (n : ℕ) → day_of (date_on n) ≡ n
  pub date_again : (d : Date) → on_calendar d ≡ true → first_year ≤ d.year → date_on (day_of d) ≡ d
  -- later days have later dates
  pub order : (m n : ℕ) → on_or_before (date_on m) (date_on n) ≡ leb m n
  -- the last day is the last date
  pub last : date_on last_day ≡ date last_year 12 31
  -- of what the calls answer: every day up to the last has its date, and no later one has any
  pub dated_to_last : (n : ℕ) → n ≤ last_day → to_date n ≡ dated (date_on n)
  pub past_last : (n : ℕ) → last_day < n → to_date n ≡ Dated.refused day_range
  -- a day has a date exactly if the date has that day
  pub there_and_back : (n : ℕ) (d : Date) → (to_date n ≡ dated d) ↔ (to_day d ≡ numbered n)
  -- a date is refused exactly when no day has it
  pub no_day : (d : Date) → (to_day d ≡ Numbered.refused day_range) ↔ ((n : ℕ) → to_date n ≡ dated d → ⊥)
  -- of two days that have dates the later has the later date
  pub later : (m n : ℕ) (d e : Date) → to_date m ≡ dated d → to_date n ≡ dated e → on_or_before d e ≡ leb m n
