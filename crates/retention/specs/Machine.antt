-- Document 01's number and value for each case of the code's answer.
use Rattle.std.specs.Prelude.{Bool, Result, Ok, Err}
use Rattle.scope.specs.declared.Refusal.{Refusal}
use Rattle.scope.specs.Machine.{refusal_number}
use Rattle.retention.specs.Keeping.{Verdict, Verdict.decided, Verdict.refused}

abbrev pub verdict_of : Result Bool Refusal → Verdict
verdict_of (Ok kept) = decided kept
verdict_of (Err e) = refused (refusal_number e)
