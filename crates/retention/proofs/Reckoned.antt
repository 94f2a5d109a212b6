-- What the code makes of a departure's date: the months counted through from January, and the day cut to the month's last.
use mathlib.Core.Path.{◌≡◌, sym, ap, subst, ◌∙◌}
use Prim.Native.Nat.{ℕ, ◌+◌, ◌/◌, ◌%◌, ◌≤◌, min}
use Rattle.scope.specs.Limits.{last_year, last_day}
use Rattle.calendar.specs.Calendar.{Date, date, month_length, date_on}
use Rattle.calendar.proofs.Dates.{Real, real_of}
use Rattle.calendar.proofs.Claimed.{year_most}
use Rattle.retention.specs.Keeping.{at_most_last, last_date}
use Rattle.retention.proofs.Months.{months}
use Rattle.retention.proofs.Claimed.{last_date_at}

module _ (departure : ℕ) (h : departure ≤ last_day) (d : Date) (e : d ≡ date_on departure) where
  pub real : Real d
  real = subst Real (sym e) (real_of departure)

  pub year_fits : d.year ≤ last_year
  year_fits = subst (λ (x : Date). x.year ≤ last_year) (sym e) (year_most departure h)

  at_until : date (d.year + months d / 12) (months d % 12 + 1) (min d.day (month_length (d.year + months d / 12) (months d % 12 + 1))) ≡ last_date (date_on departure)
  unfolding at_most_last
  at_until = sym (last_date_at d real) ∙ ap last_date e

  -- the day cut to the month's last
  pub until : (last day : ℕ) → last ≡ month_length (d.year + months d / 12) (months d % 12 + 1) → day ≡ min d.day last
      → date (d.year + months d / 12) (months d % 12 + 1) day ≡ last_date (date_on departure)
  until last day l e =
      ap (date (d.year + months d / 12) (months d % 12 + 1)) (e ∙ ap (min d.day) l) ∙ at_until
