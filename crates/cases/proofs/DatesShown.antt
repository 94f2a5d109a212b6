-- The cases of dates: that a date has a day computes, and that the day has the date follows; whether a page is kept is asked of the dates.
use Prim.Native.Nat.{ℕ}
use mathlib.Core.Path.{◌≡◌, refl, ap, ◌∙◌}
use mathlib.Core.Bool.{Bool, true, false}
use Rattle.calendar.specs.Calendar.{leap, month_length, Date, date, on_calendar, on_or_before, next_month, days_of_months, days_of_years, day_of}
use Rattle.calendar.specs.Calls.{Dated, Numbered, to_date, has_day, to_day}
use Rattle.calendar.proofs.Claimed.{back}
use Rattle.retention.specs.Keeping.{months_on, at_most_last, last_date, Verdict, kept_until, keeping}
use Rattle.retention.proofs.Claimed.{in_dates, until_dates}
use Rattle.cases.specs.Dates.{Has, Until, Dates}

has_both : (d : Date) (n : ℕ) → to_day d ≡ Numbered.numbered n → Has d n
has_both d n e = (e, back d n e)

until_is : (d e : Date) → has_day d ≡ true → last_date d ≡ e → Until d e
until_is d e h q = until_dates d h ∙ ap Dated.dated q

kept_is : (t d : Date) (b : Bool) → has_day t ≡ true → has_day d ≡ true → on_or_before t (last_date d) ≡ b → keeping (day_of t) (day_of d) ≡ Verdict.decided b
kept_is t d b h k q = in_dates t d h k ∙ ap Verdict.decided q

pub kept_28_february : keeping (day_of (date 2026 2 28)) (day_of (date 2024 8 31)) ≡ Verdict.decided true
unfolding on_or_before last_date at_most_last months_on next_month has_day on_calendar month_length leap
kept_28_february = kept_is (date 2026 2 28) (date 2024 8 31) true refl refl refl

pub not_kept_1_march : keeping (day_of (date 2026 3 1)) (day_of (date 2024 8 31)) ≡ Verdict.decided false
unfolding on_or_before last_date at_most_last months_on next_month has_day on_calendar month_length leap
not_kept_1_march = kept_is (date 2026 3 1) (date 2024 8 31) false refl refl refl

kept_last_day : keeping 73048 73048 ≡ Verdict.decided true
unfolding on_or_before last_date at_most_last months_on next_month has_day on_calendar month_length leap day_of days_of_years days_of_months
kept_last_day = kept_is (date 2199 12 31) (date 2199 12 31) true refl refl refl

kept_day_before : keeping 73047 (day_of (date 2198 6 30)) ≡ Verdict.decided true
unfolding on_or_before last_date at_most_last months_on next_month has_day on_calendar month_length leap day_of days_of_years days_of_months
kept_day_before = kept_is (date 2199 12 30) (date 2198 6 30) true refl refl refl

not_kept_last_day : keeping 73048 (day_of (date 2198 6 30)) ≡ Verdict.decided false
unfolding on_or_before last_date at_most_last months_on next_month has_day on_calendar month_length leap day_of days_of_years days_of_months
not_kept_last_day = kept_is (date 2199 12 31) (date 2198 6 30) false refl refl refl

out_of_range : (keeping 73049 0 ≡ Verdict.refused 12) × ((keeping 0 73049 ≡ Verdict.refused 12) × (kept_until 73049 ≡ Dated.refused 12))
unfolding keeping kept_until
out_of_range = (refl, (refl, refl))

-- the dates, by their days
pub dates_shown : Dates
unfolding to_date to_day has_day on_calendar month_length leap day_of days_of_years days_of_months last_date at_most_last months_on next_month
dates_shown =
    record {
      first = has_both (date 2000 1 1) 0 refl;
      last = has_both (date 2199 12 31) 73048 refl;
      past = (refl, refl);
      no_such_month = (refl, refl);
      no_such_day = (refl, (refl, refl));
      no_leap_day = (refl, (refl, refl));
      outside = (refl, refl);
      greatest = (refl, (refl, refl));
      january_to_april = (has_both (date 2023 1 31) 8431 refl, (has_both (date 2023 2 28) 8459 refl, (has_both (date 2023 3 31) 8490 refl, has_both (date 2023 4 30) 8520 refl)));
      may_to_august = (has_both (date 2023 5 31) 8551 refl, (has_both (date 2023 6 30) 8581 refl, (has_both (date 2023 7 31) 8612 refl, has_both (date 2023 8 31) 8643 refl)));
      september_to_december = (has_both (date 2023 9 30) 8673 refl, (has_both (date 2023 10 31) 8704 refl, (has_both (date 2023 11 30) 8734 refl, has_both (date 2023 12 31) 8765 refl)));
      leap_days = (has_both (date 2000 2 29) 59 refl, (has_both (date 2096 2 29) 35123 refl, has_both (date 2104 2 29) 38044 refl));
      over_2100 = (has_both (date 2100 2 28) 36583 refl, has_both (date 2100 3 1) 36584 refl);
      over_2000 = (has_both (date 2000 2 28) 58 refl, has_both (date 2000 3 1) 60 refl);
      case_days = (has_both (date 2024 8 31) 9009 refl, (has_both (date 2026 2 28) 9555 refl, has_both (date 2026 3 1) 9556 refl));
      same_day = until_is (date 2026 11 15) (date 2028 5 15) refl refl;
      to_28 = (until_is (date 2024 8 31) (date 2026 2 28) refl refl, until_is (date 2024 8 28) (date 2026 2 28) refl refl);
      to_29 = (until_is (date 2026 8 31) (date 2028 2 29) refl refl, until_is (date 2026 8 28) (date 2028 2 28) refl refl);
      to_2100 = (until_is (date 2098 8 31) (date 2100 2 28) refl refl, until_is (date 2198 8 31) (date 2200 2 28) refl refl);
      to_30 = until_is (date 2024 12 31) (date 2026 6 30) refl refl;
      past_2199 = until_is (date 2199 12 31) (date 2201 6 30) refl refl;
      kept_last = kept_last_day;
      not_kept_last = (kept_day_before, not_kept_last_day);
      either_day = out_of_range;
    }
