-- How the code holds a session, and what its calls answer, in the terms of the definitions.
use Rattle.std.specs.Prelude.{◌≡◌, Result, Ok, Err}
use Rattle.scope.specs.declared.Refusal.{Refusal}
use Rattle.scope.specs.Machine.{refusal_number, answer_number, Answers}
use Rattle.words.specs.Bytes.{zeros}
use Rattle.words.specs.Machine.{bytes_of}
use Rattle.ghash.specs.Machine.{bytes_of_element}
use Rattle.cipher.specs.Machine.{state_of}
use Rattle.digest.specs.Machine.{sum_of}
use Rattle.session.specs.declared.Session as machine
use Rattle.session.specs.declared.Closing.{Closing}
use Rattle.session.specs.Session.{Session}
use Rattle.session.specs.Calls.{Given, Finished}

abbrev pub session_of : machine.Session → Session
session_of s =
    record {
      phase = s.phase;
      ad = s.ad;
      text = s.text;
      state = state_of s.state;
      h = bytes_of_element s.h;
      pad = bytes_of s.pad;
      current = bytes_of s.current;
      sum = sum_of s.held;
      iv = s.iv;
    }

-- begin's number and session
abbrev pub Begins : Given → Result machine.Session Refusal → Type 0
Begins g r = Answers r g.number (λ s. session_of s ≡ g.session)

-- a call's number, and the session that it leaves
pub record Says (g : Given) (r : Result Unit Refusal) (after : machine.Session) : Type 0 where
  pub number : answer_number r ≡ g.number
  pub session : session_of after ≡ g.session

-- finish's, with the tag and the IV, where it is refused zeros
abbrev pub finished_of : Result Closing Refusal → (after : machine.Session) → Finished
finished_of (Ok f) s = record { number = 0; tag = f.tag; iv = f.iv; session = session_of s }
finished_of (Err e) s = record { number = refusal_number e; tag = zeros; iv = zeros; session = session_of s }
