-- Cases of document 02's S-4: the ends of the range of days, dates that are lacking and leap days, and dates until which a page is kept.
use Rattle.std.specs.Prelude.{ℕ, ◌-◌, ◌^◌, ◌≡◌, true, false}
use Rattle.calendar.specs.Calendar.{Date, date, day_of}
use Rattle.calendar.specs.Calls.{Dated, Numbered, to_date, to_day}
use Rattle.retention.specs.Keeping.{Verdict, keeping, kept_until}

-- a date has a day, and that day the date
abbrev pub Has : Date → ℕ → Type 0
Has d n = (to_day d ≡ Numbered.numbered n) × (to_date n ≡ Dated.dated d)

-- a date is refused
abbrev pub NoSuch : Date → Type 0
NoSuch d = to_day d ≡ Numbered.refused 12

-- a page of a departure is kept until a date
abbrev pub Until : (departure last : Date) → Type 0
Until d e = kept_until (day_of d) ≡ Dated.dated e

pub record Dates : Type 0 where
  -- the first day and the last, and past it
  pub first : Has (date 2000 1 1) 0
  pub last : Has (date 2199 12 31) 73048
  pub past : (to_date 73049 ≡ Dated.refused 12) × (to_date (2 ^ 64 - 1) ≡ Dated.refused 12)
  -- "12 for a date that is lacking or outside 2000 to 2199"
  pub no_such_month : NoSuch (date 2024 0 1) × NoSuch (date 2024 13 1)
  pub no_such_day : NoSuch (date 2024 1 0) × (NoSuch (date 2024 1 32) × NoSuch (date 2024 4 31))
  pub no_leap_day : NoSuch (date 2023 2 29) × (NoSuch (date 2100 2 29) × NoSuch (date 2024 2 30))
  pub outside : NoSuch (date 1999 12 31) × NoSuch (date 2200 1 1)
  pub greatest : NoSuch (date (2 ^ 64 - 1) 12 31) × (NoSuch (date 2024 (2 ^ 64 - 1) 31) × NoSuch (date 2024 12 (2 ^ 64 - 1)))
  -- the last days of the months of a common year
  pub january_to_april : Has (date 2023 1 31) 8431 × (Has (date 2023 2 28) 8459 × (Has (date 2023 3 31) 8490 × Has (date 2023 4 30) 8520))
  pub may_to_august : Has (date 2023 5 31) 8551 × (Has (date 2023 6 30) 8581 × (Has (date 2023 7 31) 8612 × Has (date 2023 8 31) 8643))
  pub september_to_december : Has (date 2023 9 30) 8673 × (Has (date 2023 10 31) 8704 × (Has (date 2023 11 30) 8734 × Has (date 2023 12 31) 8765))
  -- leap days: 2000 has one, being divided by 400, and so have the fourth years beside 2100
  pub leap_days : Has (date 2000 2 29) 59 × (Has (date 2096 2 29) 35123 × Has (date 2104 2 29) 38044)
  -- a day goes by between 28 February 2100 and 1 March, and two in 2000
  pub over_2100 : Has (date 2100 2 28) 36583 × Has (date 2100 3 1) 36584
  pub over_2000 : Has (date 2000 2 28) 58 × Has (date 2000 3 1) 60
  -- the days of S-4's own case
  pub case_days : Has (date 2024 8 31) 9009 × (Has (date 2026 2 28) 9555 × Has (date 2026 3 1) 9556)
  -- the same day eighteen months on, or that month's last: in a common year, in a leap year, in 2100 and 2200, and past 2199
  pub same_day : Until (date 2026 11 15) (date 2028 5 15)
  pub to_28 : Until (date 2024 8 31) (date 2026 2 28) × Until (date 2024 8 28) (date 2026 2 28)
  pub to_29 : Until (date 2026 8 31) (date 2028 2 29) × Until (date 2026 8 28) (date 2028 2 28)
  pub to_2100 : Until (date 2098 8 31) (date 2100 2 28) × Until (date 2198 8 31) (date 2200 2 28)
  pub to_30 : Until (date 2024 12 31) (date 2026 6 30)
  pub past_2199 : Until (date 2199 12 31) (date 2201 6 30)
  -- "even one past 2199": such a page is kept on the last day; one whose last date is 30 December 2199 is kept on that day and not on the next
  pub kept_last : keeping 73048 73048 ≡ Verdict.decided true
  pub not_kept_last : (keeping 73047 (day_of (date 2198 6 30)) ≡ Verdict.decided true) × (keeping 73048 (day_of (date 2198 6 30)) ≡ Verdict.decided false)
  -- 12, for either day
  pub either_day : (keeping 73049 0 ≡ Verdict.refused 12) × ((keeping 0 73049 ≡ Verdict.refused 12) × (kept_until 73049 ≡ Dated.refused 12))
