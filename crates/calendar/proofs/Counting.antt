-- How days add up: the months of a year are over one after the other, and so are the years; every month has 28 to 31 days.
use mathlib.Core.Path.{◌≡◌, ap, subst, ◌∙◌}
use mathlib.Core.Logic.{⊎_elim}
use mathlib.Core.Bool.{Bool, true, false, ◌&&◌}
use Prim.Native.Nat.{ℕ, zero, suc, ◌+◌, ◌-◌, ◌≤◌, ◌<◌}
use native.Mathlib.Omega.{arith}
use native.Mathlib.Nat.{eq-or-lt_of_le, le_of_suc-le-suc, le_refl, le_trans}
use lib.Dec.{T, leb, leb→le}
use lib.ListN.{get_or}
use Rattle.scope.specs.Limits.{first_year}
use Rattle.words.proofs.Tests.{both_left, both_right, below}
use Rattle.calendar.specs.Calendar.{leap, month_lengths, month_length, days_of_months, days_of_years}

fits : Bool → ℕ → Bool
fits l k = leb 28 (get_or (month_lengths l) k 0) && leb (get_or (month_lengths l) k 0) 31

fits_all : (l : Bool) (k : ℕ) → k < 12 → T (fits l k)
unfolding fits
fits_all true k h = below (fits true) 12 tt k h
fits_all false k h = below (fits false) 12 tt k h

module _ (y m : ℕ) (h : 1 ≤ m) (k : m ≤ 12) where
  abbrev long : ℕ
  long = get_or (month_lengths (leap y)) (m - 1) 0

  pub month_least : 28 ≤ month_length y m
  unfolding month_length fits
  month_least = leb→le 28 long (both_left (leb 28 long) (leb long 31) (fits_all (leap y) (m - 1) (omega arith)))

  pub month_most : month_length y m ≤ 31
  unfolding month_length fits
  month_most = leb→le long 31 (both_right (leb 28 long) (leb long 31) (fits_all (leap y) (m - 1) (omega arith)))

-- a month is over
pub months_next : (y m : ℕ) → 1 ≤ m → days_of_months y m ≡ days_of_months y (m - 1) + month_length y m
unfolding days_of_months
months_next y zero h = absurd (omega arith)
months_next y (suc n) h =
    let e : n ≡ suc n - 1 = omega arith in
    ap (λ (k : ℕ). days_of_months y k + month_length y (suc n)) e

-- and a year
pub years_next : (y : ℕ) → first_year ≤ y → days_of_years (y + 1 - first_year) ≡ days_of_years (y - first_year) + days_of_months y 12
unfolding days_of_years
years_next y h =
    let e : y + 1 - first_year ≡ suc (y - first_year) = omega arith in
    let f : first_year + (y - first_year) ≡ y = omega arith in
    ap days_of_years e ∙ ap (λ (x : ℕ). days_of_years (y - first_year) + days_of_months x 12) f

-- a function that nowhere falls from a number to the next nowhere falls
rising : (f : ℕ → ℕ) → ((n : ℕ) → f n ≤ f (suc n)) → (m n : ℕ) → m ≤ n → f m ≤ f n
rising f r m zero h =
    let e : m ≡ 0 = omega arith in
    subst (λ (k : ℕ). f m ≤ f k) e (le_refl (f m))
rising f r m (suc n) h =
    ⊎_elim (λ e. subst (λ (k : ℕ). f m ≤ f k) e (le_refl (f m))) (λ l. le_trans (rising f r m n (le_of_suc-le-suc l)) (r n)) (eq-or-lt_of_le h)

pub months_rise : (y m n : ℕ) → m ≤ n → days_of_months y m ≤ days_of_months y n
unfolding days_of_months
months_rise y = rising (days_of_months y) (λ n. omega arith)

pub years_rise : (m n : ℕ) → m ≤ n → days_of_years m ≤ days_of_years n
unfolding days_of_years
years_rise = rising days_of_years (λ n. omega arith)
