-- `retention::last_date` meets its contract: the months by the quotient and the rest, the day cut to the month's last.
use native.Mathlib.Omega.{arith}
use Rattle.retention.proofs.Reckoned.{real, year_fits, until}
use Rattle.retention.proofs.last_date.Goals as goal

pub overflow_sub-months : goal.overflow_sub-months
overflow_sub-months c = (real _ c.requires _ c.date_of-d.ensures).month_from

pub overflow_add-months : goal.overflow_add-months
overflow_add-months c =
    omega (arith, (real _ c.requires _ c.date_of-d.ensures).month_to)

pub overflow_add-year : goal.overflow_add-year
overflow_add-year c =
    omega (arith, (real _ c.requires _ c.date_of-d.ensures).month_to, year_fits _ c.requires _ c.date_of-d.ensures)

pub returns : goal.returns
returns c = until _ c.requires _ c.date_of-d.ensures _ _ c.month_length-last.ensures c.min.ensures
