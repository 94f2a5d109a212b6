-- Counted day by day and counted by what is over, a date has one day: the next date comes one day later, and of two dates the later has more days before it.
use mathlib.Core.Path.{◌≡◌, refl, sym, ap, subst, ◌∙◌}
use mathlib.Core.Bool.{Bool, true, false, ◌&&◌, ◌||◌}
use Prim.Native.Nat.{ℕ, zero, suc, ◌+◌, ◌-◌, ◌≤◌, ◌<◌}
use native.Mathlib.Omega.{arith}
use lib.Dec.{leb, ltb, eqb}
use borrow.Author.Tests.{lt-ltb, le-ltb, le-leb, lt-leb, ltb-true, ltb-false, leb-true, leb-false, eqb-true, eqb-false}
use Rattle.scope.specs.Limits.{first_year}
use Rattle.words.proofs.Tests.{and_left, and_right}
use Rattle.calendar.specs.Calendar.{month_length, Date, date, on_calendar, on_or_before, next_month, next_day, date_on, days_of_months, days_of_years, day_of}
use Rattle.calendar.specs.Inner.{Small}
use Rattle.calendar.proofs.Counting.{month_least, month_most, months_next, years_next, months_rise, years_rise}

-- a date of the calendar, from 2000 on
pub record Real (d : Date) : Type 0 where
  pub month_from : 1 ≤ d.month
  pub month_to : d.month ≤ 12
  pub day_from : 1 ≤ d.day
  pub day_to : d.day ≤ month_length d.year d.month
  pub year_from : first_year ≤ d.year

module _ (d : Date) where
  pub real_calendar : Real d → on_calendar d ≡ true
  unfolding on_calendar
  real_calendar r =
      rw (le-leb 1 d.month r.month_from, le-leb d.month 12 r.month_to, le-leb 1 d.day r.day_from, le-leb d.day (month_length d.year d.month) r.day_to)

  pub calendar_real : on_calendar d ≡ true → first_year ≤ d.year → Real d
  unfolding on_calendar
  calendar_real e h =
      let a : Bool = leb 1 d.month in
      let b : Bool = leb d.month 12 in
      let f : Bool = leb 1 d.day in
      let g : Bool = leb d.day (month_length d.year d.month) in
      let p : ((a && b) && f) ≡ true = and_left ((a && b) && f) g e in
      let q : (a && b) ≡ true = and_left (a && b) f p in
      record {
        month_from = leb-true 1 d.month (and_left a b q);
        month_to = leb-true d.month 12 (and_right a b q);
        day_from = leb-true 1 d.day (and_right (a && b) f p);
        day_to = leb-true d.day (month_length d.year d.month) (and_right ((a && b) && f) g e);
        year_from = h;
      }

  pub small : Real d → d.year < 65536 → Small d
  small r h = (h, omega (arith, r.month_to), omega (arith, r.day_to, month_most d.year d.month r.month_from r.month_to))

  -- a date's month and year are over at the earliest on its day
  pub month_over : Real d → days_of_months d.year (d.month - 1) + d.day ≤ days_of_months d.year d.month
  month_over r = omega (arith, months_next d.year d.month r.month_from, r.day_to)

  pub year_over : Real d → days_of_months d.year (d.month - 1) + d.day ≤ days_of_months d.year 12
  year_over r = omega (arith, month_over r, months_rise d.year d.month 12 r.month_to)

-- ---- the next date

next_in_month : (d : Date) → d.day < month_length d.year d.month → next_day d ≡ date d.year d.month (d.day + 1)
unfolding next_day
next_in_month d h = rw (lt-ltb d.day (month_length d.year d.month) h)

next_in_year : (d : Date) → month_length d.year d.month ≤ d.day → d.month < 12 → next_day d ≡ date d.year (d.month + 1) 1
unfolding next_day next_month
next_in_year d h k = rw (le-ltb d.day (month_length d.year d.month) h, lt-ltb d.month 12 k)

next_year : (d : Date) → month_length d.year d.month ≤ d.day → 12 ≤ d.month → next_day d ≡ date (d.year + 1) 1 1
unfolding next_day next_month
next_year d h k = rw (le-ltb d.day (month_length d.year d.month) h, le-ltb d.month 12 k)

-- the next date is one of the calendar, a day later
pub record Next (d e : Date) : Type 0 where
  pub real : Real e
  pub later : day_of e ≡ suc (day_of d)

module _ (d : Date) (r : Real d) where
  in_month : d.day < month_length d.year d.month → Next d (date d.year d.month (d.day + 1))
  unfolding day_of
  in_month h =
      record {
        real = record { month_from = r.month_from; month_to = r.month_to; day_from = omega arith; day_to = omega arith; year_from = r.year_from };
        later = omega (arith, r.day_from);
      }

  in_year : month_length d.year d.month ≤ d.day → d.month < 12 → Next d (date d.year (d.month + 1) 1)
  unfolding day_of
  in_year h k =
      let e : d.month ≡ d.month + 1 - 1 = omega arith in
      let f : days_of_months d.year d.month ≡ days_of_months d.year (d.month + 1 - 1) = ap (days_of_months d.year) e in
      record {
        real = record {
          month_from = omega arith;
          month_to = omega arith;
          day_from = omega arith;
          day_to = omega (arith, month_least d.year (d.month + 1) (omega arith) (omega arith));
          year_from = r.year_from;
        };
        later = omega (arith, r.day_from, r.day_to, f, months_next d.year d.month r.month_from);
      }

  year_on : month_length d.year d.month ≤ d.day → 12 ≤ d.month → Next d (date (d.year + 1) 1 1)
  unfolding day_of days_of_months
  year_on h k =
      let e : d.month ≡ 12 = omega (arith, r.month_to) in
      let f : days_of_months d.year d.month ≡ days_of_months d.year 12 = ap (days_of_months d.year) e in
      record {
        real = record {
          month_from = omega arith;
          month_to = omega arith;
          day_from = omega arith;
          day_to = omega (arith, month_least (d.year + 1) 1 (omega arith) (omega arith));
          year_from = omega (arith, r.year_from);
        };
        later = omega (arith, r.day_from, r.day_to, f, months_next d.year d.month r.month_from, years_next d.year r.year_from);
      }

  next : Next d (next_day d)
  next = go (ltb d.day (month_length d.year d.month)) (ltb d.month 12) refl refl
    where
      go : (a b : Bool) → ltb d.day (month_length d.year d.month) ≡ a → ltb d.month 12 ≡ b → Next d (next_day d)
      go true b e f =
          let h = ltb-true d.day (month_length d.year d.month) e in
          subst (Next d) (sym (next_in_month d h)) (in_month h)
      go false true e f =
          let h = ltb-false d.day (month_length d.year d.month) e in
          let k = ltb-true d.month 12 f in
          subst (Next d) (sym (next_in_year d h k)) (in_year h k)
      go false false e f =
          let h = ltb-false d.day (month_length d.year d.month) e in
          let k = ltb-false d.month 12 f in
          subst (Next d) (sym (next_year d h k)) (year_on h k)

pub real_of : (n : ℕ) → Real (date_on n)
unfolding date_on
real_of zero =
    record { month_from = omega arith; month_to = omega arith; day_from = omega arith; day_to = omega (arith, month_least first_year 1 (omega arith) (omega arith)); year_from = omega arith }
real_of (suc n) = (next (date_on n) (real_of n)).real

pub day_of_date : (n : ℕ) → day_of (date_on n) ≡ n
unfolding date_on day_of days_of_years days_of_months
day_of_date zero = refl
day_of_date (suc n) = (next (date_on n) (real_of n)).later ∙ ap suc (day_of_date n)

-- ---- the order

-- an earlier year, month or day has fewer days before it
module _ (d e : Date) (r : Real d) (s : Real e) where
  pub earlier_year : d.year < e.year → day_of d < day_of e
  unfolding day_of
  earlier_year h =
      omega (
        arith,
        r.day_from,
        year_over d r,
        years_next d.year r.year_from,
        years_rise (d.year + 1 - first_year) (e.year - first_year) (omega arith),
      )

  earlier_month : d.year ≡ e.year → d.month < e.month → day_of d < day_of e
  unfolding day_of
  earlier_month q h =
      let f : days_of_years (d.year - first_year) ≡ days_of_years (e.year - first_year) = ap (λ (y : ℕ). days_of_years (y - first_year)) q in
      let g : days_of_months d.year (e.month - 1) ≡ days_of_months e.year (e.month - 1) = ap (λ (y : ℕ). days_of_months y (e.month - 1)) q in
      omega (arith, r.day_from, f, g, month_over d r, months_rise d.year d.month (e.month - 1) (omega arith))

  same_month : d.year ≡ e.year → d.month ≡ e.month → day_of d + e.day ≡ day_of e + d.day
  unfolding day_of
  same_month q p =
      let f : days_of_years (d.year - first_year) ≡ days_of_years (e.year - first_year) = ap (λ (y : ℕ). days_of_years (y - first_year)) q in
      let g : days_of_months d.year (d.month - 1) ≡ days_of_months e.year (d.month - 1) = ap (λ (y : ℕ). days_of_months y (d.month - 1)) q in
      let k : days_of_months e.year (d.month - 1) ≡ days_of_months e.year (e.month - 1) = ap (λ (m : ℕ). days_of_months e.year (m - 1)) p in
      omega (arith, r.day_from, s.day_from, f, g, k)

-- the order of dates is that of their days
module _ (d e : Date) (r : Real d) (s : Real e) where
  by_day : d.year ≡ e.year → d.month ≡ e.month → leb d.day e.day ≡ leb (day_of d) (day_of e)
  by_day q p = go (leb d.day e.day) refl
    where
      go : (b : Bool) → leb d.day e.day ≡ b → b ≡ leb (day_of d) (day_of e)
      go true f = sym (le-leb (day_of d) (day_of e) (omega (arith, leb-true d.day e.day f, same_month d e r s q p)))
      go false f = sym (lt-leb (day_of d) (day_of e) (omega (arith, leb-false d.day e.day f, same_month d e r s q p)))

  by_month : d.year ≡ e.year → (ltb d.month e.month || (eqb d.month e.month && leb d.day e.day)) ≡ leb (day_of d) (day_of e)
  by_month q = go (ltb d.month e.month) (eqb d.month e.month) refl refl
    where
      go : (a b : Bool) → ltb d.month e.month ≡ a → eqb d.month e.month ≡ b → (a || (b && leb d.day e.day)) ≡ leb (day_of d) (day_of e)
      go true b f g = sym (le-leb (day_of d) (day_of e) (omega (arith, earlier_month d e r s q (ltb-true d.month e.month f))))
      go false true f g = by_day q (eqb-true d.month e.month g)
      go false false f g =
          let l : e.month < d.month = omega (arith, ltb-false d.month e.month f, eqb-false d.month e.month g) in
          sym (lt-leb (day_of d) (day_of e) (earlier_month e d s r (sym q) l))

  by_year : (a b : Bool) → ltb d.year e.year ≡ a → eqb d.year e.year ≡ b
      → (a || (b && (ltb d.month e.month || (eqb d.month e.month && leb d.day e.day)))) ≡ leb (day_of d) (day_of e)
  by_year true b f g = sym (le-leb (day_of d) (day_of e) (omega (arith, earlier_year d e r s (ltb-true d.year e.year f))))
  by_year false true f g = by_month (eqb-true d.year e.year g)
  by_year false false f g =
      let l : e.year < d.year = omega (arith, ltb-false d.year e.year f, eqb-false d.year e.year g) in
      sym (lt-leb (day_of d) (day_of e) (earlier_year e d s r l))

  pub order : on_or_before d e ≡ leb (day_of d) (day_of e)
  unfolding on_or_before
  order = by_year (ltb d.year e.year) (eqb d.year e.year) refl refl

-- dates of one day are the same
module _ (d e : Date) (r : Real d) (s : Real e) (q : day_of d ≡ day_of e) where
  one_year : d.year ≡ e.year
  one_year =
      let f : d.year < e.year → ⊥ = λ l. omega (arith, earlier_year d e r s l) in
      let g : e.year < d.year → ⊥ = λ l. omega (arith, earlier_year e d s r l) in
      omega (arith, f, g)

  one_month : d.month ≡ e.month
  one_month =
      let f : d.month < e.month → ⊥ = λ l. omega (arith, earlier_month d e r s one_year l) in
      let g : e.month < d.month → ⊥ = λ l. omega (arith, earlier_month e d s r (sym one_year) l) in
      omega (arith, f, g)

  one_date : d ≡ e
  one_date =
      let p : d.day ≡ e.day = omega (arith, same_month d e r s one_year one_month) in
      rw (one_year, one_month, p)

pub date_of_day : (d : Date) → Real d → date_on (day_of d) ≡ d
date_of_day d r = one_date (date_on (day_of d)) d (real_of (day_of d)) r (day_of_date (day_of d))
