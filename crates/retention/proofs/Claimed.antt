-- What is claimed of keeping: the date until which a page is kept is one of the calendar, so that the order of dates is that of their days.
use mathlib.Core.Path.{◌≡◌, refl, sym, ap, ap₂, subst, ◌∙◌}
use mathlib.Core.Logic.{◌⊎◌, inl, inr}
use mathlib.Core.Bool.{Bool, true, false}
use Prim.Native.Nat.{ℕ, ◌+◌, ◌-◌, ◌/◌, ◌%◌, ◌≤◌, ◌<◌}
use native.Mathlib.Omega.{arith}
use lib.Dec.{leb, ltb}
use borrow.Author.Tests.{lt-ltb, le-ltb, ltb-true, ltb-false, le-leb, lt-leb, leb-false}
use Rattle.scope.specs.Limits.{last_year, last_day, kept_months}
use Rattle.scope.specs.Refusals.{day_range}
use Rattle.calendar.specs.Calendar.{Date, on_or_before, date_on, day_of}
use Rattle.calendar.specs.Calls.{Dated, has_day}
use Rattle.calendar.specs.Inner.{Small}
use Rattle.calendar.proofs.Counting.{month_least}
use Rattle.calendar.proofs.Dates.{Real, real_calendar, small, real_of, day_of_date, date_of_day, earlier_year, order}
use Rattle.calendar.proofs.Claimed.{in_years, year_most, has_real, has_year}
use Rattle.calendar.proofs.Answers.{given, not_given, given_day, given_is}
use Rattle.retention.specs.Keeping.{at_most_last, months_on, last_date, kept_until, Verdict.decided, Verdict.refused, keeping}
use Rattle.retention.specs.Laws.{EighteenOn, KeepingLaws}
use Rattle.retention.proofs.Months.{months, at_month, same_date, months_at}

-- ---- the answers

-- the last date, by the day of a departure
abbrev last_of : ℕ → Date
last_of departure = last_date (date_on departure)

module _ (departure : ℕ) where
  pub until_out : last_day < departure → kept_until departure ≡ Dated.refused day_range
  unfolding kept_until
  until_out = not_given last_of departure

  pub until_is : departure ≤ last_day → kept_until departure ≡ Dated.dated (last_date (date_on departure))
  unfolding kept_until
  until_is = given last_of departure

module _ (today departure : ℕ) where
  today_out : last_day < today → keeping today departure ≡ refused day_range
  unfolding keeping
  today_out h = rw (lt-ltb last_day today h)

  departure_out : today ≤ last_day → last_day < departure → keeping today departure ≡ refused day_range
  unfolding keeping
  departure_out h k = rw (le-ltb last_day today h, lt-ltb last_day departure k)

  pub keeping_is : today ≤ last_day → departure ≤ last_day → keeping today departure ≡ decided (on_or_before (date_on today) (last_date (date_on departure)))
  unfolding keeping
  keeping_is h k = rw (le-ltb last_day today h, le-ltb last_day departure k)

-- ---- the date

-- of a date of the calendar: by the months from January of its year on
module _ (d : Date) (r : Real d) where
  pub last_date_at : last_date d ≡ at_most_last (at_month d.year (months d) d.day)
  unfolding last_date
  last_date_at =
      let e : d ≡ at_month d.year (d.month - 1) d.day = same_date (omega (arith, r.month_to)) (omega (arith, r.month_from, r.month_to)) in
      ap at_most_last (ap (months_on kept_months) e ∙ months_at kept_months d.year (d.month - 1) d.day)

  at_eighteen : EighteenOn d (at_most_last (at_month d.year (months d) d.day))
  unfolding at_most_last
  at_eighteen = record { months = omega (arith, r.month_from); day = refl }

  eighteen_on : EighteenOn d (last_date d)
  eighteen_on = subst (EighteenOn d) (sym last_date_at) at_eighteen

  at_real : Real (at_most_last (at_month d.year (months d) d.day))
  unfolding at_most_last
  at_real =
      let least = month_least (d.year + (months d) / 12) ((months d) % 12 + 1) (omega arith) (omega arith) in
      record {
        month_from = omega arith;
        month_to = omega arith;
        day_from = omega (arith, r.day_from, least);
        day_to = omega arith;
        year_from = omega (arith, r.year_from);
      }

  at_year : (at_most_last (at_month d.year (months d) d.day)).year ≤ d.year + 2
  unfolding at_most_last
  at_year = omega (arith, r.month_to)

  last_date_year : (last_date d).year ≤ d.year + 2
  last_date_year = subst (λ (e : Date). e.year ≤ d.year + 2) (sym last_date_at) at_year

  last_date_real : Real (last_date d)
  last_date_real = subst Real (sym last_date_at) at_real

  at_later : day_of d < day_of (at_most_last (at_month d.year (months d) d.day))
  unfolding at_most_last
  at_later = earlier_year d (at_most_last (at_month d.year (months d) d.day)) r at_real (omega arith)

  last_date_later : day_of d < day_of (last_date d)
  last_date_later = subst (λ (e : Date). day_of d < day_of e) (sym last_date_at) at_later

-- ---- the claims

-- whether a page is kept is a matter of days
by_days : (today departure : ℕ) → today ≤ last_day → departure ≤ last_day → keeping today departure ≡ decided (leb today (day_of (last_date (date_on departure))))
by_days today departure h k =
    keeping_is today departure h k
    ∙ ap decided (order (date_on today) (last_date (date_on departure)) (real_of today) (last_date_real (date_on departure) (real_of departure)))
    ∙ ap (λ (n : ℕ). decided (leb n (day_of (last_date (date_on departure))))) (day_of_date today)

-- and of dates
pub in_dates : (t d : Date) → has_day t ≡ true → has_day d ≡ true → keeping (day_of t) (day_of d) ≡ decided (on_or_before t (last_date d))
in_dates t d h k =
    keeping_is (day_of t) (day_of d) (in_years t (has_real t h) (has_year t h)) (in_years d (has_real d k) (has_year d k))
    ∙ ap₂ (λ (x y : Date). decided (on_or_before x (last_date y))) (date_of_day t (has_real t h)) (date_of_day d (has_real d k))

pub until_dates : (d : Date) → has_day d ≡ true → kept_until (day_of d) ≡ Dated.dated (last_date d)
until_dates d k =
    until_is (day_of d) (in_years d (has_real d k) (has_year d k)) ∙ ap (λ (x : Date). Dated.dated (last_date x)) (date_of_day d (has_real d k))

module _ (departure : ℕ) (until : Date) (e : kept_until departure ≡ Dated.dated until) where
  dated_departure : departure ≤ last_day
  unfolding kept_until
  dated_departure = given_day last_of departure until e

  dated_is : last_date (date_on departure) ≡ until
  unfolding kept_until
  dated_is = given_is last_of departure until e

  pub dated_small : Small until
  dated_small =
      let d = date_on departure in
      let y : (last_date d).year < 65536 = omega (arith, last_date_year d (real_of departure), year_most departure dated_departure) in
      subst Small dated_is (small (last_date d) (last_date_real d (real_of departure)) y)

module _ (today later departure : ℕ) (e : keeping today departure ≡ decided false) (h : today ≤ later) (k : later ≤ last_day) where
  decided_departure : departure ≤ last_day
  decided_departure = go (ltb last_day departure) refl
    where
      go : (b : Bool) → ltb last_day departure ≡ b → departure ≤ last_day
      go true f = let q = departure_out today departure (omega arith) (ltb-true last_day departure f) in absurd (cc (e, q))
      go false f = ltb-false last_day departure f

  never_again : keeping later departure ≡ decided false
  never_again =
      let n = day_of (last_date (date_on departure)) in
      let f = by_days today departure (omega arith) decided_departure in
      let q : leb today n ≡ false = cc (e, f) in
      by_days later departure k decided_departure ∙ ap decided (lt-leb later n (omega (arith, leb-false today n q)))

to_come : (today departure : ℕ) → today ≤ departure → departure ≤ last_day → keeping today departure ≡ decided true
to_come today departure h k =
    let d = date_on departure in
    by_days today departure (omega arith) k ∙ ap decided (le-leb today (day_of (last_date d)) (omega (arith, last_date_later d (real_of departure), day_of_date departure)))

-- today's year is not past the last
past_last_year : (today departure : ℕ) → today ≤ last_day → departure ≤ last_day → last_year < (last_date (date_on departure)).year
    → keeping today departure ≡ decided true
unfolding on_or_before
past_last_year today departure h k y =
    keeping_is today departure h k
    ∙ rw (lt-ltb (date_on today).year (last_date (date_on departure)).year (omega (arith, year_most today h)))

no_such_day : (today departure : ℕ) → (last_day < today) ⊎ (last_day < departure) → keeping today departure ≡ refused day_range
no_such_day today departure (inl h) = today_out today departure h
no_such_day today departure (inr k) = go (ltb last_day today) refl
  where
    go : (b : Bool) → ltb last_day today ≡ b → keeping today departure ≡ refused day_range
    go true e = today_out today departure (ltb-true last_day today e)
    go false e = departure_out today departure (ltb-false last_day today e) k

pub keeping_laws : KeepingLaws
keeping_laws =
    record {
      until = until_is;
      a_date = λ departure.
          let r = last_date_real (date_on departure) (real_of departure) in
          (real_calendar (last_date (date_on departure)) r, r.year_from);
      eighteen_on = λ departure. eighteen_on (date_on departure) (real_of departure);
      no_departure = until_out;
      up_to = by_days;
      past_last_year = past_last_year;
      no_such_day = no_such_day;
      never_again = never_again;
      to_come = to_come;
    }
