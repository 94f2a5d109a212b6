-- Days to dates and back, with their refusals (document 02, S-4: "Day numbers become Gregorian dates and back (12 for a date that is lacking or outside
-- 2000 to 2199)"; document 01's 12 for a day outside 0 to 73,048).
use Rattle.std.specs.Prelude.{ℕ, Bool, ◌&&◌, leb, ltb}
use Rattle.scope.specs.Limits.{first_year, last_year, last_day}
use Rattle.scope.specs.Refusals.{pick, day_range}
use Rattle.calendar.specs.Calendar.{Date, on_calendar, date_on, day_of}

-- a date, or a refusal
pub data Dated : Type 0 where
  dated : Date → Dated
  refused : ℕ → Dated

-- a day, or a refusal
pub data Numbered : Type 0 where
  numbered : ℕ → Numbered
  refused : ℕ → Numbered

-- the date of a day: 12 for a day past the last
unfoldable pub to_date : (day : ℕ) → Dated
to_date n = pick (ltb last_day n) (refused day_range) (dated (date_on n))

-- whether a date is neither lacking nor outside 2000 to 2199
unfoldable pub has_day : Date → Bool
has_day d = on_calendar d && leb first_year d.year && leb d.year last_year

-- the day of a date: 12 for one that is lacking or outside 2000 to 2199
unfoldable pub to_day : Date → Numbered
to_day d = pick (has_day d) (numbered (day_of d)) (refused day_range)
