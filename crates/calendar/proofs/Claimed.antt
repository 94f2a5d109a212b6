-- What is claimed of days and dates: the laws of the two ways of counting, and of the calls since a date is before 2200 exactly if its day is not past the
-- last.
use mathlib.Core.Path.{◌≡◌, refl, sym, ap, ap₂, subst, ◌∙◌}
use mathlib.Core.Bool.{Bool, true, false, ◌&&◌}
use Prim.Native.Nat.{ℕ, suc, ◌+◌, ◌-◌, ◌≤◌, ◌<◌}
use native.Mathlib.Omega.{arith}
use lib.Dec.{leb}
use borrow.Author.Tests.{le-leb, leb-true}
use Rattle.scope.specs.Limits.{first_year, last_year, last_day}
use Rattle.scope.specs.Refusals.{day_range}
use Rattle.words.proofs.Tests.{and_left, and_right}
use Rattle.calendar.specs.Calendar.{leap, month_length, Date, date, on_calendar, on_or_before, date_on, days_of_months, days_of_years, day_of}
use Rattle.calendar.specs.Calls.{Dated, Dated.dated, Numbered, Numbered.numbered, to_date, has_day, to_day}
use Rattle.calendar.specs.Inner.{Small}
use Rattle.calendar.specs.Laws.{DaysAndDates}
use Rattle.calendar.proofs.Counting.{month_most, years_next, years_rise}
use Rattle.calendar.proofs.Dates.{Real, real_calendar, calendar_real, small, year_over, real_of, day_of_date, date_of_day}
use Rattle.calendar.proofs.Dates as dates
use Rattle.calendar.proofs.Answers.{given, not_given, given_day, given_is}

two_hundred_years : days_of_years 200 ≡ suc last_day
unfolding days_of_years days_of_months month_length leap
two_hundred_years = refl

module _ (d : Date) (r : Real d) where
  pub in_years : d.year ≤ last_year → day_of d ≤ last_day
  unfolding day_of
  in_years h =
      omega
      (arith, r.day_from, year_over d r, years_next d.year r.year_from, years_rise (d.year + 1 - first_year) 200 (omega arith), two_hundred_years)

  in_days : day_of d ≤ last_day → d.year ≤ last_year
  unfolding day_of
  in_days h =
      let f : 2200 ≤ d.year → ⊥ = λ k. omega (arith, years_rise 200 (d.year - first_year) (omega arith), two_hundred_years) in
      omega (arith, f)

pub year_most : (n : ℕ) → n ≤ last_day → (date_on n).year ≤ last_year
year_most n h = in_days (date_on n) (real_of n) (subst (λ (k : ℕ). k ≤ last_day) (sym (day_of_date n)) h)

-- a date that is not refused is one of the calendar, and of the years from 2000 to 2199
module _ (d : Date) where
  pub has_real : has_day d ≡ true → Real d
  unfolding has_day
  has_real e =
      let a : Bool = on_calendar d in
      let b : Bool = leb first_year d.year in
      let p : (a && b) ≡ true = and_left (a && b) (leb d.year last_year) e in
      calendar_real d (and_left a b p) (leb-true first_year d.year (and_right a b p))

  pub has_year : has_day d ≡ true → d.year ≤ last_year
  unfolding has_day
  has_year e = leb-true d.year last_year (and_right (on_calendar d && leb first_year d.year) (leb d.year last_year) e)

  pub has_31 : has_day d ≡ true → d.day ≤ 31
  has_31 e =
      let r = has_real e in
      omega (arith, r.day_to, month_most d.year d.month r.month_from r.month_to)

  real_has : Real d → d.year ≤ last_year → has_day d ≡ true
  unfolding has_day
  real_has r h = rw (real_calendar d r, le-leb first_year d.year r.year_from, le-leb d.year last_year h)

pub to_date_is : (n : ℕ) → n ≤ last_day → to_date n ≡ dated (date_on n)
unfolding to_date
to_date_is = given date_on

pub undated : (n : ℕ) → last_day < n → to_date n ≡ Dated.refused day_range
unfolding to_date
undated = not_given date_on

pub to_day_is : (d : Date) → has_day d ≡ true → to_day d ≡ numbered (day_of d)
unfolding to_day
to_day_is d h = rw h

pub unnumbered : (d : Date) → has_day d ≡ false → to_day d ≡ Numbered.refused day_range
unfolding to_day
unnumbered d h = rw h

-- what a day that has a date is
module _ (n : ℕ) (d : Date) (e : to_date n ≡ dated d) where
  dated_day : n ≤ last_day
  unfolding to_date
  dated_day = given_day date_on n d e

  dated_is : date_on n ≡ d
  unfolding to_date
  dated_is = given_is date_on n d e

  pub dated_small : Small d
  dated_small = subst Small dated_is (small (date_on n) (real_of n) (omega (arith, year_most n dated_day)))

  pub forth : to_day d ≡ numbered n
  forth =
      let h = real_has (date_on n) (real_of n) (year_most n dated_day) in
      subst (λ (x : Date). to_day x ≡ numbered n) dated_is (to_day_is (date_on n) h ∙ ap numbered (day_of_date n))

-- and a date that has a day
module _ (d : Date) where
  back_by : has_day d ≡ true → to_date (day_of d) ≡ dated d
  back_by h = to_date_is (day_of d) (in_years d (has_real d h) (has_year d h)) ∙ ap dated (date_of_day d (has_real d h))

  pub back : (n : ℕ) → to_day d ≡ numbered n → to_date n ≡ dated d
  back n e = go (has_day d) refl
    where
      go : (b : Bool) → has_day d ≡ b → to_date n ≡ dated d
      go true h =
          let f = to_day_is d h in
          let q : day_of d ≡ n = cc (e, f) in
          subst (λ (k : ℕ). to_date k ≡ dated d) q (back_by h)
      go false h = let f = unnumbered d h in absurd (cc (e, f))

  refused_by : ((n : ℕ) → to_date n ≡ dated d → ⊥) → to_day d ≡ Numbered.refused day_range
  refused_by f = go (has_day d) refl
    where
      go : (b : Bool) → has_day d ≡ b → to_day d ≡ Numbered.refused day_range
      go true h = absurd (f (day_of d) (back_by h))
      go false h = unnumbered d h

  refuses : to_day d ≡ Numbered.refused day_range → (n : ℕ) → to_date n ≡ dated d → ⊥
  refuses e n h = let f = forth n d h in cc

order_of : (m n : ℕ) → on_or_before (date_on m) (date_on n) ≡ leb m n
order_of m n = dates.order (date_on m) (date_on n) (real_of m) (real_of n) ∙ ap₂ leb (day_of_date m) (day_of_date n)

last_day_is : day_of (date last_year 12 31) ≡ last_day
unfolding day_of days_of_years days_of_months month_length leap
last_day_is = refl

pub days_and_dates : DaysAndDates
unfolding on_calendar month_length leap
days_and_dates =
    record {
      calendar_has = λ n. (real_calendar (date_on n) (real_of n), (real_of n).year_from);
      day_again = day_of_date;
      date_again = λ d e h. date_of_day d (calendar_real d e h);
      order = order_of;
      last = ap date_on (sym last_day_is) ∙ date_of_day (date last_year 12 31) (calendar_real (date last_year 12 31) refl (omega arith));
      dated_to_last = to_date_is;
      past_last = undated;
      there_and_back = λ n d. (forth n d, back d n);
      no_day = λ d. (refuses d, refused_by d);
      later = λ m n d e p q. ap₂ on_or_before (sym (dated_is m d p)) (sym (dated_is n e q)) ∙ order_of m n;
    }
