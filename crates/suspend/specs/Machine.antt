-- What the code's answer to a resume says, in the terms of the definition.
use Rattle.std.specs.Prelude.{Result, Ok, Err}
use Rattle.scope.specs.declared.Refusal.{Refusal}
use Rattle.scope.specs.Machine.{refusal_number}
use Rattle.session.specs.declared.Session as machine
use Rattle.session.specs.Machine.{session_of}
use Rattle.suspend.specs.Calls.{Resumed, not_resumed}

-- the IV is the one that the session carries
abbrev pub resumed_of : Result machine.Session Refusal → Resumed
resumed_of (Ok s) = record { number = 0; iv = s.iv; session = session_of s }
resumed_of (Err e) = not_resumed (refusal_number e)
