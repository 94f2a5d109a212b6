-- An answer of the code whose refusal may be of any type E, where `number` gives a number for each of its values: which date or refusal of the documents it
-- stands for, and the number that is answered. What `number` is, is left open: a contract over these holds for every one.
use Rattle.std.specs.Prelude.{ℕ, Result, Ok, Err}
use Rattle.scope.specs.declared.Refusal.{Refusal}
use Rattle.scope.specs.Machine.{answer_number}
use Rattle.calendar.specs.declared.Date as machine
use Rattle.calendar.specs.Calls.{Dated, Dated.dated}
use Rattle.calendar.specs.Machine.{date_of}

-- a date, or a refusal by its number
abbrev pub dated_by : {E : Type 0} → (number : E → ℕ) → Result machine.Date E → Dated
dated_by number (Ok d) = dated (date_of d)
dated_by number (Err e) = Dated.refused (number e)

-- the number that is answered: that of the caller's refusal, else that of the reply
abbrev pub told_number : {A E : Type 0} → (number : E → ℕ) → Result (Result A Refusal) E → ℕ
told_number number (Ok a) = answer_number a
told_number number (Err e) = number e
