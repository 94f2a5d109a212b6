-- Which date a value of the code stands for, and the documents' number and values for each case of the code's answers.
use Rattle.std.specs.Prelude.{ℕ, Result, Ok, Err}
use Rattle.scope.specs.declared.Refusal.{Refusal}
use Rattle.scope.specs.Machine.{refusal_number}
use Rattle.calendar.specs.declared.Date as machine
use Rattle.calendar.specs.Calendar.{Date, date}
use Rattle.calendar.specs.Calls.{Dated, Dated.dated, Numbered, Numbered.numbered}

abbrev pub date_of : machine.Date → Date
date_of d = date d.year d.month d.day

abbrev pub dated_of : Result machine.Date Refusal → Dated
dated_of (Ok d) = dated (date_of d)
dated_of (Err e) = Dated.refused (refusal_number e)

abbrev pub numbered_of : Result ℕ Refusal → Numbered
numbered_of (Ok n) = numbered n
numbered_of (Err e) = Numbered.refused (refusal_number e)
