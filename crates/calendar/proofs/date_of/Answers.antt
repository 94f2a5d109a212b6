-- `calendar::date_of` meets its contract: year and month are quotients and the day is what is left over, and their date is the day's.
use mathlib.Core.Path.{refl, ap, ap₂}
use Prim.Native.Nat.{ℕ, ◌+◌, ◌-◌, ◌*◌, ◌/◌}
use native.Mathlib.Omega.{arith}
use Rattle.calendar.proofs.Formulas.{bounds, late, early}
use borrow.Author.Rules.{rules}
use Rattle.calendar.proofs.date_of.Goals as goal

pub overflow_mul-y : goal.overflow_mul-y
overflow_mul-y c = omega (arith, c.to_march-n.ensures, (bounds c.args.day c.requires).1)

pub before_year-requires : goal.before_year-requires
before_year-requires c = omega (arith, c.to_march-n.ensures, (bounds c.args.day c.requires).1)

pub returns-then-m-lt10 : goal.returns-then-m-lt10
returns-then-m-lt10 c =
    late c.args.day c.requires _ _ _ _ (ap (λ (n : ℕ). 4 * n / 1461) c.to_march-n.ensures)
    (ap₂ ◌-◌ c.to_march-n.ensures c.before_year.ensures) refl (ap (λ (n : ℕ). c.to_march-n.result - c.before_year.result - n + 1) c.before_month.ensures) (search rules)

pub returns : goal.returns
returns c =
    early c.args.day c.requires _ _ _ _ (ap (λ (n : ℕ). 4 * n / 1461) c.to_march-n.ensures)
    (ap₂ ◌-◌ c.to_march-n.ensures c.before_year.ensures) refl (ap (λ (n : ℕ). c.to_march-n.result - c.before_year.result - n + 1) c.before_month.ensures) (search rules)
