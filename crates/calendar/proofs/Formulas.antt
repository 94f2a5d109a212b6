-- What the code computes: the length of a month, and the date of a day, whose year, month and day are quotients and what is left over.
use mathlib.Core.Path.{◌≡◌, refl, sym, ap, ap₂, subst, ◌∙◌}
use mathlib.Core.Bool.{Bool, true, false, ◌||◌}
use Prim.Native.Nat.{ℕ, suc, ◌+◌, ◌-◌, ◌*◌, ◌/◌, ◌%◌, ◌≤◌, ◌<◌}
use native.Mathlib.Omega.{arith}
use lib.Dec.{T, ltb, eqb, eqb→eq}
use lib.ListN.{get_or}
use borrow.Author.Tests.{ltb-true, ltb-false, eqb-true, eqb-false, ne_eqb}
use Rattle.scope.specs.Limits.{first_year, last_day}
use Rattle.scope.specs.Refusals.{pick}
use Rattle.words.proofs.Tests.{below}
use Rattle.calendar.specs.Calendar.{leap, month_lengths, month_length, Date, date, date_on, days_of_months, day_of}
use Rattle.calendar.specs.Inner.{to_march, from_march, march_day}
use Rattle.calendar.proofs.Counting.{months_next}
use Rattle.calendar.proofs.Dates.{Real, date_of_day}
use Rattle.calendar.proofs.March.{day_more, hundredth, january, months_by, leap_by, march_low, march_high, march_back, from_march_on, to_february}

-- ---- the length of a month

module _ (y m : ℕ) where
  pub february : m ≡ 2 → month_length y m ≡ pick (leap y) 29 28
  unfolding month_length
  february e = rw e

  by_turns : (l : Bool) (k : ℕ) → k < 12 → T (eqb k 1 || eqb (30 + (suc k + suc k / 8) % 2) (get_or (month_lengths l) k 0))
  by_turns true = below (λ k. eqb k 1 || eqb (30 + (suc k + suc k / 8) % 2) (get_or (month_lengths true) k 0)) 12 tt
  by_turns false = below (λ k. eqb k 1 || eqb (30 + (suc k + suc k / 8) % 2) (get_or (month_lengths false) k 0)) 12 tt

  pub other_month : 1 ≤ m → m ≤ 12 → (m ≡ 2 → ⊥) → 30 + (m + m / 8) % 2 ≡ month_length y m
  unfolding month_length
  other_month h k n =
      let f : suc (m - 1) ≡ m = omega arith in
      let a : eqb (m - 1) 1 ≡ false = ne_eqb (m - 1) 1 (λ e. n (omega arith)) in
      let t : T (false || eqb (30 + (suc (m - 1) + suc (m - 1) / 8) % 2) (get_or (month_lengths (leap y)) (m - 1) 0)) =
      subst (λ (b : Bool). T (b || eqb (30 + (suc (m - 1) + suc (m - 1) / 8) % 2) (get_or (month_lengths (leap y)) (m - 1) 0))) a (by_turns (leap y) (m - 1) (omega arith)) in
      let e : 30 + (suc (m - 1) + suc (m - 1) / 8) % 2 ≡ get_or (month_lengths (leap y)) (m - 1) 0 = eqb→eq (30 + (suc (m - 1) + suc (m - 1) / 8) % 2) (get_or (month_lengths (leap y)) (m - 1) 0) t in
      ap (λ (i : ℕ). 30 + (i + i / 8) % 2) (sym f) ∙ e

-- ---- the date of a day

-- the month that begins in March or later
late_month : (y m : ℕ) → m < 10 → month_length y (m + 3) + (153 * m + 2) / 5 ≡ (153 * suc m + 2) / 5
late_month y m h =
    let e : m + 3 - 1 ≡ m + 2 = omega arith in
    let f : days_of_months y (m + 3 - 1) ≡ days_of_months y (m + 2) = ap (days_of_months y) e in
    let e' : suc m + 2 ≡ m + 3 = omega arith in
    let f' : days_of_months y (suc m + 2) ≡ days_of_months y (m + 3) = ap (days_of_months y) e' in
    omega (arith, f, f', months_next y (m + 3) (omega arith), months_by y m (omega arith), months_by y (suc m) (omega arith))

january_long : (y : ℕ) → month_length y 1 ≡ 31
unfolding month_length
january_long y = refl

february_long : (y : ℕ) → month_length y 2 ≡ 28 + day_more (leap y)
february_long y = omega (arith, months_next y 2 (omega arith), january y 1 (omega arith), months_by y 0 (omega arith))

module _ (day : ℕ) (h : day ≤ last_day) where
  abbrev n : ℕ
  n = to_march day

  -- from 1 March 1999 on it is 306 or more, and never 29 February 2100
  pub bounds : (306 ≤ n) × (n ≤ 73355) × (n ≡ 36890 → ⊥)
  bounds = go (ltb day 36584) refl
    where
      go : (b : Bool) → ltb day 36584 ≡ b → (306 ≤ n) × (n ≤ 73355) × (n ≡ 36890 → ⊥)
      go true e =
          let q : n ≡ day + 306 = march_low day (ltb-true day 36584 e) in
          (omega (arith, q), omega (arith, q), λ f. omega (arith, q, ltb-true day 36584 e, f))
      go false e =
          let q : n ≡ day + 307 = march_high day (ltb-false day 36584 e) in
          (omega (arith, q), omega (arith, q), λ f. omega (arith, q, ltb-false day 36584 e, f))

  -- a date of the calendar that has the day's number is the day's
  the_date : (d : Date) → Real d → to_march (day_of d) ≡ n → d ≡ date_on day
  the_date d r e =
      let q : day_of d ≡ day = sym (march_back (day_of d)) ∙ ap from_march e ∙ march_back day in
      sym (date_of_day d r) ∙ ap date_on q

  module _ (y t m d : ℕ) (y-is : y ≡ 4 * n / 1461) (t-is : t ≡ n - (1461 * y + 3) / 4) (m-is : m ≡ (5 * t + 2) / 153) (d-is : d ≡ t - (153 * m + 2) / 5 + 1) where
    number_is : n ≡ march_day y m d
    number_is = omega (arith, y-is, t-is, m-is, d-is)

    pub late : m < 10 → date (1999 + y) (m + 3) d ≡ date_on day
    late l =
        let r : Real (date (1999 + y) (m + 3) d) =
        record {
          month_from = omega arith;
          month_to = omega arith;
          day_from = omega (arith, d-is);
          day_to = omega (arith, t-is, m-is, d-is, late_month (1999 + y) m l);
          year_from = omega (arith, bounds.0, t-is, m-is);
        } in
        let e : 1999 + y - 1999 ≡ y = omega arith in
        let f : m + 3 - 3 ≡ m = omega arith in
        the_date (date (1999 + y) (m + 3) d) r
        (from_march_on (date (1999 + y) (m + 3) d) r (omega (arith, y-is, bounds.1)) (omega arith) ∙ ap₂ (λ (a b : ℕ). march_day a b d) e f
        ∙ sym number_is)

    -- a February with 29 days has them by the quotient, and 2100 is no day's
    leap_day : (b : Bool) → eqb y 100 ≡ b → m ≡ 11 → y < 200 → d ≤ 28 + day_more (leap (first_year + y))
    leap_day true e f k =
        let q : y ≡ 100 = eqb-true y 100 e in
        omega (arith, y-is, t-is, d-is, f, q, bounds.2)
    leap_day false e f k =
        let z : hundredth y ≡ 0 = rw e in
        omega (arith, y-is, t-is, d-is, f, z, leap_by y k)

    pub early : 10 ≤ m → date (2000 + y) (m - 9) d ≡ date_on day
    early l =
        let k : y < 200 = omega (arith, y-is, t-is, m-is, bounds.1) in
        let r : Real (date (2000 + y) (m - 9) d) =
        record {
          month_from = omega arith;
          month_to = omega (arith, y-is, t-is, m-is);
          day_from = omega (arith, d-is);
          day_to = ends (eqb m 10) refl k;
          year_from = omega arith;
        } in
        let e : 2000 + y - 2000 ≡ y = omega arith in
        let f : m - 9 + 9 ≡ m = omega arith in
        the_date (date (2000 + y) (m - 9) d) r
        (to_february (date (2000 + y) (m - 9) d) r (omega arith) (omega (arith, y-is, t-is, m-is)) ∙ ap₂ (λ (a b : ℕ). march_day a b d) e f
        ∙ sym number_is)
      where
        january_ends : m ≡ 10 → d ≤ month_length (2000 + y) (m - 9)
        january_ends e =
            let f : m - 9 ≡ 1 = omega arith in
            subst (λ (i : ℕ). d ≤ month_length (2000 + y) i) (sym f) (omega (arith, t-is, m-is, d-is, january_long (2000 + y)))

        february_ends : m ≡ 11 → y < 200 → d ≤ month_length (2000 + y) (m - 9)
        february_ends e k =
            let f : m - 9 ≡ 2 = omega arith in
            subst (λ (i : ℕ). d ≤ month_length (2000 + y) i) (sym f) (omega (arith, february_long (2000 + y), leap_day (eqb y 100) refl e k))

        ends : (b : Bool) → eqb m 10 ≡ b → y < 200 → d ≤ month_length (2000 + y) (m - 9)
        ends true e k = january_ends (eqb-true m 10 e)
        ends false e k = february_ends (omega (arith, y-is, t-is, m-is, eqb-false m 10 e)) k
