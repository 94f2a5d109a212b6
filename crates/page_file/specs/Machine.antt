-- Document 02's number and value for each case of the code's answer.
use Rattle.std.specs.Prelude.{ℕ, Result, Ok, Err}
use Rattle.scope.specs.declared.Refusal.{Refusal}
use Rattle.scope.specs.Machine.{refusal_number}
use Rattle.page_file.specs.Calls.{Opened, Opened.written, Opened.refused}

abbrev pub opened_of : Result ℕ Refusal → Opened
opened_of (Ok n) = written n
opened_of (Err e) = refused (refusal_number e)
