-- Eighteen months on: month for month, and by the quotient and the rest of the months counted through.
use mathlib.Core.Path.{◌≡◌, refl, ap, ◌∙◌}
use mathlib.Core.Bool.{Bool, true, false}
use Prim.Native.Nat.{ℕ, zero, suc, ◌+◌, ◌-◌, ◌/◌, ◌%◌, ◌≤◌, ◌<◌}
use native.Mathlib.Omega.{arith}
use lib.Dec.{ltb}
use borrow.Author.Tests.{ltb-true, ltb-false}
use Rattle.scope.specs.Limits.{kept_months}
use Rattle.scope.specs.Refusals.{pick}
use Rattle.calendar.specs.Calendar.{Date, date, next_month}
use Rattle.retention.specs.Keeping.{months_on}

-- the months from January of a date's year to the month that is eighteen months on
abbrev pub months : Date → ℕ
months d = d.month - 1 + kept_months

-- the month that is i months behind January of a year
abbrev pub at_month : (year i day : ℕ) → Date
at_month y i d = date (y + i / 12) (i % 12 + 1) d

pub same_date : {y z m n d : ℕ} → y ≡ z → m ≡ n → date y m d ≡ date z n d
same_date e f = rw (e, f)

next_at : (y i d : ℕ) → next_month (at_month y i d) ≡ at_month y (suc i) d
unfolding next_month
next_at y i d = go (ltb (i % 12 + 1) 12) refl
  where
    go : (b : Bool) → ltb (i % 12 + 1) 12 ≡ b
        → pick b (date (y + i / 12) (i % 12 + 1 + 1) d) (date (y + i / 12 + 1) 1 d) ≡ at_month y (suc i) d
    go true e =
        let h : i % 12 + 1 < 12 = ltb-true (i % 12 + 1) 12 e in
        same_date (omega arith) (omega arith)
    go false e =
        let h : 12 ≤ i % 12 + 1 = ltb-false (i % 12 + 1) 12 e in
        same_date (omega arith) (omega arith)

pub months_at : (n y i d : ℕ) → months_on n (at_month y i d) ≡ at_month y (i + n) d
unfolding months_on
months_at zero y i d = same_date (omega arith) (omega arith)
months_at (suc n) y i d =
    let e : suc (i + n) ≡ i + suc n = omega arith in
    ap next_month (months_at n y i d) ∙ next_at y (i + n) d ∙ ap (λ (k : ℕ). at_month y k d) e
