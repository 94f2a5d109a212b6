-- An answer that is a date for a day up to the last and 12 for any other, whatever the date is: `to_date` of the calendar, and `kept_until` of retention.
use mathlib.Core.Path.{◌≡◌, refl}
use mathlib.Core.Bool.{Bool, true, false}
use Prim.Native.Nat.{ℕ, ◌≤◌, ◌<◌}
use lib.Dec.{ltb}
use borrow.Author.Tests.{lt-ltb, le-ltb, ltb-true, ltb-false}
use Rattle.scope.specs.Limits.{last_day}
use Rattle.scope.specs.Refusals.{pick, day_range}
use Rattle.calendar.specs.Calendar.{Date}
use Rattle.calendar.specs.Calls.{Dated, Dated.dated, Dated.refused}

abbrev pub answer : (ℕ → Date) → (day : ℕ) → Dated
answer f n = pick (ltb last_day n) (refused day_range) (dated (f n))

module _ (f : ℕ → Date) (n : ℕ) where
  pub given : n ≤ last_day → answer f n ≡ dated (f n)
  given h = rw (le-ltb last_day n h)

  pub not_given : last_day < n → answer f n ≡ refused day_range
  not_given h = rw (lt-ltb last_day n h)

  module _ (d : Date) (e : answer f n ≡ dated d) where
    pub given_day : n ≤ last_day
    given_day = go (ltb last_day n) refl
      where
        go : (b : Bool) → ltb last_day n ≡ b → n ≤ last_day
        go true h = let q = not_given (ltb-true last_day n h) in absurd (cc (e, q))
        go false h = ltb-false last_day n h

    pub given_is : f n ≡ d
    given_is = let q = given given_day in cc
