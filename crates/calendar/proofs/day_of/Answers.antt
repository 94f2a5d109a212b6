-- `calendar::day_of` meets its contract: the date's number in the years that begin with March, and from there its day.
use mathlib.Core.Path.{◌≡◌, sym, ap, ◌∙◌}
use mathlib.Core.Bool.{true}
use Prim.Native.Nat.{ℕ, ◌-◌, ◌+◌, ◌≤◌, ◌<◌}
use native.Mathlib.Omega.{arith}
use Rattle.calendar.specs.Calendar.{date, day_of}
use Rattle.calendar.specs.Calls.{has_day}
use Rattle.calendar.specs.Inner.{to_march, from_march, march_day}
use Rattle.calendar.proofs.Claimed.{has_real, has_year, has_31}
use Rattle.calendar.proofs.March.{march_least, march_back, from_march_on, to_february}
use borrow.Author.Rules.{rules}
use Rattle.calendar.proofs.day_of.Goals as goal

module _ (y m d : ℕ) (h : has_day (date y m d) ≡ true) where
  -- a number that is the date's is 306 or more, and its day is the date's
  least : (n : ℕ) → to_march (day_of (date y m d)) ≡ n → 306 ≤ n
  least n e = omega (arith, e, march_least (day_of (date y m d)))

  the_day : (n r : ℕ) → to_march (day_of (date y m d)) ≡ n → r ≡ from_march n → r ≡ day_of (date y m d)
  the_day n r e f = f ∙ ap from_march (sym e) ∙ march_back (day_of (date y m d))

  early : m < 3 → to_march (day_of (date y m d)) ≡ march_day (y - 2000) (m + 9) d
  early = to_february (date y m d) (has_real (date y m d) h) (has_year (date y m d) h)

  late : 3 ≤ m → to_march (day_of (date y m d)) ≡ march_day (y - 1999) (m - 3) d
  late = from_march_on (date y m d) (has_real (date y m d) h) (has_year (date y m d) h)

pub overflow_sub-year : goal.overflow_sub-year
overflow_sub-year c = omega (arith, (has_real _ c.requires).year_from)

pub march_day-requires : goal.march_day-requires
march_day-requires c =
    let h = c.requires in
    omega (arith, has_year _ h, (has_real _ h).day_from, has_31 _ h)

pub from_march-requires : goal.from_march-requires
from_march-requires c =
    least _ _ _ c.requires _ (early _ _ _ c.requires (search rules) ∙ sym c.march_day.ensures)

pub returns-then-month-lt3 : goal.returns-then-month-lt3
returns-then-month-lt3 c =
    the_day _ _ _ c.requires _ _ (early _ _ _ c.requires (search rules) ∙ sym c.march_day.ensures) c.from_march.ensures

pub overflow_sub-year-2 : goal.overflow_sub-year-2
overflow_sub-year-2 c = omega (arith, (has_real _ c.requires).year_from)

pub march_day-requires-2 : goal.march_day-requires-2
march_day-requires-2 c =
    let h = c.requires in
    omega (arith, has_year _ h, (has_real _ h).month_to, (has_real _ h).day_from, has_31 _ h)

pub from_march-requires-2 : goal.from_march-requires-2
from_march-requires-2 c =
    least _ _ _ c.requires _ (late _ _ _ c.requires (search rules) ∙ sym c.march_day-2.ensures)

pub returns : goal.returns
returns c =
    the_day _ _ _ c.requires _ _ (late _ _ _ c.requires (search rules) ∙ sym c.march_day-2.ensures) c.from_march-2.ensures
