-- Keeping (document 02, S-4, in place of the 548 days of document 01, "Whole pages, keeping, program"): until which date a page is kept, and whether it is on a
-- day. Days and dates are those of crates/calendar.
use Rattle.std.specs.Prelude.{ℕ, zero, suc, min, Bool, ◌||◌, ltb}
use Rattle.scope.specs.Limits.{last_day, kept_months}
use Rattle.scope.specs.Refusals.{pick, day_range}
use Rattle.calendar.specs.Calendar.{Date, date, month_length, on_or_before, next_month, date_on}
use Rattle.calendar.specs.Calls.{Dated}

-- the same day n months on, whether that month has it or not
unfoldable pub months_on : ℕ → Date → Date
months_on zero d = d
months_on (suc n) d = next_month (months_on n d)

-- the month's last day where the day is lacking
unfoldable pub at_most_last : Date → Date
at_most_last d = date d.year d.month (min d.day (month_length d.year d.month))

-- the last date on which a page is kept: "same day eighteen months on, or that month's last day where the day is lacking"
unfoldable pub last_date : (departure : Date) → Date
last_date d = at_most_last (months_on kept_months d)

-- that date, for the day of a departure: 12 for a day past the last
unfoldable pub kept_until : (departure : ℕ) → Dated
kept_until departure = pick (ltb last_day departure) (Dated.refused day_range) (Dated.dated (last_date (date_on departure)))

-- whether the page is kept, or a refusal
pub data Verdict : Type 0 where
  decided : (kept : Bool) → Verdict
  refused : ℕ → Verdict

-- "Kept means today is on or before that date, even one past 2199": 12 for either day past the last
unfoldable pub keeping : (today departure : ℕ) → Verdict
keeping today departure =
    pick (ltb last_day today || ltb last_day departure) (refused day_range) (decided (on_or_before (date_on today) (last_date (date_on departure))))
