-- What only inner functions' contracts use: years that begin with March, and dates that four bytes hold.
--
-- Years that begin with March, as the code counts in them: from 1 March 1999 on, as if every fourth had 366 days and 2100 so a 29 February. What this is in terms
-- of the calendar is proved (proofs/March.antt).
use Rattle.std.specs.Prelude.{ℕ, ◌+◌, ◌-◌, ◌*◌, ◌/◌, ◌<◌, leb, ltb}
use Rattle.scope.specs.Refusals.{pick}
use Rattle.calendar.specs.Calendar.{Date}

-- a day's number in this count: from day 36,584 on, which is 1 March 2100, one more
unfoldable pub to_march : (day : ℕ) → ℕ
to_march n = n + 306 + pick (leb 36584 n) 1 0

-- and back, 29 February 2100 being number 36,890
unfoldable pub from_march : ℕ → ℕ
from_march n = n - 306 - pick (ltb 36890 n) 1 0

-- the number of day d of month m of year y, all counted from 0 but the day
abbrev pub march_day : (y m d : ℕ) → ℕ
march_day y m d = (1461 * y + 3) / 4 + (153 * m + 2) / 5 + (d - 1)

-- a date whose parts fit two bytes, a byte and a byte
abbrev pub Small : Date → Type 0
Small d = (d.year < 65536) × (d.month < 256) × (d.day < 256)
