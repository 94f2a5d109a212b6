-- What is claimed of keeping (document 02, S-4), for every two days. Proved as `keeping_laws` in proofs/Claimed.antt.
use Rattle.std.specs.Prelude.{ℕ, ◌+◌, ◌*◌, ◌≤◌, ◌<◌, min, ◌≡◌, ◌⊎◌, true, false, leb}
use Rattle.scope.specs.Limits.{first_year, last_year, last_day, kept_months}
use Rattle.scope.specs.Refusals.{day_range}
use Rattle.calendar.specs.Calendar.{Date, month_length, on_calendar, date_on, day_of}
use Rattle.calendar.specs.Calls.{Dated}
use Rattle.retention.specs.Keeping.{last_date, kept_until, Verdict, keeping}

-- e is eighteen months after d, months counted through at twelve a year, and its day is d's, or its own month's last where that is less
pub record EighteenOn (d e : Date) : Type 0 where
  pub months : 12 * e.year + e.month ≡ 12 * d.year + d.month + kept_months
  pub day : e.day ≡ min d.day (month_length e.year e.month)

pub record KeepingLaws : Type 0 where
  -- every departure up to the last day has its last date of keeping, one of the calendar and eighteen months on; no later departure has any
  pub until : (departure : ℕ) → departure ≤ last_day → kept_until departure ≡ Dated.dated (last_date (date_on departure))
  pub a_date : (departure : ℕ) → (on_calendar (last_date (date_on departure)) ≡ true) × (first_year ≤ (last_date (date_on departure)).year)
  pub eighteen_on : (departure : ℕ) → EighteenOn (date_on departure) (last_date (date_on departure))
  pub no_departure : (departure : ℕ) → last_day < departure → kept_until departure ≡ Dated.refused day_range
  -- the page is kept on the days up to that date's and on no other, whatever the date's year
  pub up_to : (today departure : ℕ) → today ≤ last_day → departure ≤ last_day
      → keeping today departure ≡ Verdict.decided (leb today (day_of (last_date (date_on departure))))
  -- where that date lies past the last year, the page is kept on every day
  pub past_last_year : (today departure : ℕ) → today ≤ last_day → departure ≤ last_day → last_year < (last_date (date_on departure)).year
      → keeping today departure ≡ Verdict.decided true
  -- 12 for either day
  pub no_such_day : (today departure : ℕ) → (last_day < today) ⊎ (last_day < departure) → keeping today departure ≡ Verdict.refused day_range
  -- once past keeping, a page is past keeping on every later day
  pub never_again : (today later departure : ℕ) → keeping today departure ≡ Verdict.decided false → today ≤ later → later ≤ last_day
      → keeping later departure ≡ Verdict.decided false
  -- a page whose departure is today or still to come is kept
  pub to_come : (today departure : ℕ) → today ≤ departure → departure ≤ last_day → keeping today departure ≡ Verdict.decided true
