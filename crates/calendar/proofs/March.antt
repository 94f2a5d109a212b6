-- Years that begin with March: the days before a year and before a month are the quotients, since 2100 is the only fourth year from 2000 to 2199 that is not
-- a leap year.
use mathlib.Core.Path.{◌≡◌, refl, ap, ap₂, ◌∙◌}
use mathlib.Core.Bool.{Bool, true, false}
use Prim.Native.Nat.{ℕ, zero, suc, ◌+◌, ◌-◌, ◌*◌, ◌/◌, ◌≤◌, ◌<◌}
use native.Mathlib.Omega.{arith}
use lib.Dec.{ltb, eqb, eqb→eq}
use lib.ListN.{get_or}
use borrow.Author.Tests.{lt-ltb, le-ltb, le-leb, lt-leb, ltb-true, ltb-false}
use Rattle.scope.specs.Limits.{first_year, last_year}
use Rattle.scope.specs.Refusals.{pick}
use Rattle.words.proofs.Tests.{below}
use Rattle.calendar.specs.Calendar.{leap, month_lengths, month_length, Date, days_of_months, days_of_years, day_of}
use Rattle.calendar.specs.Inner.{to_march, from_march, march_day}
use Rattle.calendar.proofs.Counting.{years_next, months_rise, years_rise}
use Rattle.calendar.proofs.Dates.{Real, month_over, year_over}

-- ---- months

-- the days of the first n months, of a leap year or of any other
months : Bool → ℕ → ℕ
months l zero = 0
months l (suc n) = months l n + get_or (month_lengths l) n 0

months_are : (y n : ℕ) → days_of_months y n ≡ months (leap y) n
unfolding days_of_months months month_length
months_are y zero = refl
months_are y (suc n) =
    let e : suc n - 1 ≡ n = omega arith in
    ap₂ ◌+◌ (months_are y n) (ap (λ (k : ℕ). get_or (month_lengths (leap y)) k 0) e)

-- the day more of a leap year
abbrev pub day_more : Bool → ℕ
day_more l = pick l 1 0

month_fits : Bool → ℕ → Bool
month_fits l m = eqb (months l (m + 2)) (59 + day_more l + (153 * m + 2) / 5)

months_fit : (l : Bool) (m : ℕ) → m < 11 → months l (m + 2) ≡ 59 + day_more l + (153 * m + 2) / 5
unfolding months month_fits
months_fit true m h = eqb→eq (months true (m + 2)) (59 + day_more true + (153 * m + 2) / 5) (below (month_fits true) 11 tt m h)
months_fit false m h = eqb→eq (months false (m + 2)) (59 + day_more false + (153 * m + 2) / 5) (below (month_fits false) 11 tt m h)

-- before month m, counted from March, come January, February and those between
pub months_by : (y m : ℕ) → m < 11 → days_of_months y (m + 2) ≡ 59 + day_more (leap y) + (153 * m + 2) / 5
months_by y m h = months_are y (m + 2) ∙ months_fit (leap y) m h

pub january : (y n : ℕ) → n < 2 → days_of_months y n ≡ 31 * n
unfolding days_of_months month_length
january y zero h = refl
january y (suc zero) h = refl
january y (suc (suc n)) h = absurd (omega arith)

-- ---- years

-- of a year's days the quotient takes as many, but for the year 2100
abbrev pub hundredth : ℕ → ℕ
hundredth k = pick (eqb k 100) 1 0

abbrev past_hundredth : ℕ → ℕ
past_hundredth k = pick (ltb 100 k) 1 0

year_fits : ℕ → Bool
year_fits k = eqb (day_more (leap (first_year + k)) + hundredth k + (1461 * k + 3) / 4 + 365) ((1461 * suc k + 3) / 4)

pub leap_by : (k : ℕ) → k < 200 → day_more (leap (first_year + k)) + hundredth k + (1461 * k + 3) / 4 + 365 ≡ (1461 * suc k + 3) / 4
unfolding leap year_fits
leap_by k h =
    eqb→eq (day_more (leap (first_year + k)) + hundredth k + (1461 * k + 3) / 4 + 365) ((1461 * suc k + 3) / 4) (below year_fits 200 tt k h)

past_fits : ℕ → Bool
past_fits k = eqb (past_hundredth (suc k)) (past_hundredth k + hundredth k)

past_by : (k : ℕ) → k < 200 → past_hundredth (suc k) ≡ past_hundredth k + hundredth k
unfolding past_fits
past_by k h = eqb→eq (past_hundredth (suc k)) (past_hundredth k + hundredth k) (below past_fits 200 tt k h)

years_by : (k : ℕ) → k ≤ 200 → days_of_years k + past_hundredth k ≡ (1461 * k + 3) / 4
unfolding days_of_years
years_by zero h = refl
years_by (suc k) h =
    omega (arith, years_by k (omega arith), past_by k (omega arith), leap_by k (omega arith), months_by (first_year + k) 10 (omega arith))

-- ---- days

-- from day 36,584 on one more is counted
module _ (n : ℕ) where
  pub march_low : n < 36584 → to_march n ≡ n + 306
  unfolding to_march
  march_low h = rw (lt-leb 36584 n h) (omega arith)

  pub march_high : 36584 ≤ n → to_march n ≡ n + 307
  unfolding to_march
  march_high h = rw (le-leb 36584 n h) (omega arith)

  pub march_least : 306 ≤ to_march n
  unfolding to_march
  march_least = omega arith

  pub from_low : n ≤ 36890 → from_march n ≡ n - 306
  unfolding from_march
  from_low h = rw (le-ltb 36890 n h) (omega arith)

  pub from_high : 36890 < n → from_march n ≡ n - 307
  unfolding from_march
  from_high h = rw (lt-ltb 36890 n h) (omega arith)

module _ (n : ℕ) where
  pub march_back : from_march (to_march n) ≡ n
  march_back = go (ltb n 36584) refl
    where
      go : (b : Bool) → ltb n 36584 ≡ b → from_march (to_march n) ≡ n
      go true e =
          let h : n < 36584 = ltb-true n 36584 e in
          ap from_march (march_low n h) ∙ from_low (n + 306) (omega arith) ∙ (let f : n + 306 - 306 ≡ n = omega arith in f)
      go false e =
          let h : 36584 ≤ n = ltb-false n 36584 e in
          ap from_march (march_high n h) ∙ from_high (n + 307) (omega arith) ∙ (let f : n + 307 - 307 ≡ n = omega arith in f)

-- a date's number, in the year that begins with its March or with the one before
module _ (d : Date) (r : Real d) (h : d.year ≤ last_year) where
  abbrev k : ℕ
  k = d.year - first_year

  year_again : leap (first_year + k) ≡ leap d.year
  year_again =
      let e : first_year + k ≡ d.year = omega (arith, r.year_from) in
      ap leap e

  more_is : day_more (leap (first_year + k)) ≡ day_more (leap d.year)
  more_is = ap day_more year_again

  -- up to the end of 2099 a day is below 36,525
  before_2100 : k < 100 → day_of d < 36525
  unfolding day_of
  before_2100 l =
      let e : d.year + 1 - first_year ≤ 100 = omega arith in
      omega (arith, r.day_from, year_over d r, years_next d.year r.year_from, years_rise (d.year + 1 - first_year) 100 e, years_by 100 (omega arith))

  -- from 2100 on it is 36,525 and more, and the months that are over come on top
  from_2100 : 100 ≤ k → 36525 + days_of_months d.year (d.month - 1) < day_of d + 1
  unfolding day_of
  from_2100 l = omega (arith, years_rise 100 k l, years_by 100 (omega arith))

  from_2101 : 101 ≤ k → 36584 ≤ day_of d
  unfolding day_of
  from_2101 l = omega (arith, years_rise 101 k l, years_by 101 (omega arith))

  -- in March and later, a year that began before counts 365 days, or 366
  march_sum : 3 ≤ d.month → march_day (d.year - 1999) (d.month - 3) d.day ≡ day_of d + 306 + past_hundredth (suc k)
  unfolding day_of
  march_sum l =
      let m : ℕ = d.month - 3 in
      let e : m + 2 ≡ d.month - 1 = omega arith in
      let f : days_of_months d.year (m + 2) ≡ days_of_months d.year (d.month - 1) = ap (days_of_months d.year) e in
      omega (arith, r.month_to, r.year_from, f, months_by d.year m (omega (arith, r.month_to)), years_by k (omega arith), leap_by k (omega arith), past_by k (omega arith), more_is)

  pub from_march_on : 3 ≤ d.month → to_march (day_of d) ≡ march_day (d.year - 1999) (d.month - 3) d.day
  from_march_on l = go (ltb k 100) refl
    where
      go : (b : Bool) → ltb k 100 ≡ b → to_march (day_of d) ≡ march_day (d.year - 1999) (d.month - 3) d.day
      go true e =
          let p : past_hundredth (suc k) ≡ 0 = rw (le-ltb 100 (suc k) (ltb-true k 100 e)) in
          omega (arith, march_low (day_of d) (omega (arith, before_2100 (ltb-true k 100 e))), march_sum l, p)
      go false e =
          let q : 100 ≤ k = ltb-false k 100 e in
          let p : past_hundredth (suc k) ≡ 1 = rw (lt-ltb 100 (suc k) (omega arith)) in
          let f : 59 ≤ days_of_months d.year (d.month - 1) = omega (arith, months_rise d.year 2 (d.month - 1) (omega arith), months_by d.year 0 (omega arith)) in
          omega (arith, march_high (day_of d) (omega (arith, from_2100 q)), march_sum l, p)

  -- in January and February it began in the year before
  february_sum : d.month < 3 → march_day (d.year - 2000) (d.month + 9) d.day ≡ day_of d + 306 + past_hundredth k
  unfolding day_of
  february_sum l =
      omega (arith, r.month_from, r.year_from, january d.year (d.month - 1) (omega (arith, r.month_from)), years_by k (omega arith))

  -- and in 2100 there are 59 days of them
  to_february_2100 : d.month < 3 → k ≡ 100 → day_of d < 36584
  unfolding day_of
  to_february_2100 l q =
      let f : days_of_years k ≡ days_of_years 100 = ap days_of_years q in
      let g : day_more (leap (first_year + k)) ≡ day_more (leap (first_year + 100)) = ap (λ (i : ℕ). day_more (leap (first_year + i))) q in
      omega (
        arith,
        r.day_from,
        f,
        g,
        more_is,
        years_by 100 (omega arith),
        leap_by 100 (omega arith),
        month_over d r,
        months_rise d.year d.month 2 (omega arith),
        months_by d.year 0 (omega arith),
      )

  pub to_february : d.month < 3 → to_march (day_of d) ≡ march_day (d.year - 2000) (d.month + 9) d.day
  to_february l = go (ltb k 100) (ltb 100 k) refl refl
    where
      low : k ≤ 100 → day_of d < 36584 → to_march (day_of d) ≡ march_day (d.year - 2000) (d.month + 9) d.day
      low e b =
          let p : past_hundredth k ≡ 0 = rw (le-ltb 100 k e) in
          omega (arith, march_low (day_of d) b, february_sum l, p)

      go : (a b : Bool) → ltb k 100 ≡ a → ltb 100 k ≡ b → to_march (day_of d) ≡ march_day (d.year - 2000) (d.month + 9) d.day
      go true b e f = low (omega (arith, ltb-true k 100 e)) (omega (arith, before_2100 (ltb-true k 100 e)))
      go false true e f =
          let p : past_hundredth k ≡ 1 = rw f in
          let q : 101 ≤ k = ltb-true 100 k f in
          omega (arith, march_high (day_of d) (from_2101 q), february_sum l, p)
      go false false e f =
          let q : k ≡ 100 = omega (arith, ltb-false k 100 e, ltb-false 100 k f) in
          low (omega (arith, q)) (to_february_2100 l q)
