-- What the code's modes and answers say, in the terms of the definitions.
use Rattle.std.specs.Prelude.{ℕ, ◌≡◌, List, ◌++◌, Result, Ok, Err}
use Rattle.scope.specs.declared.Refusal.{Refusal}
use Rattle.scope.specs.Machine.{refusal_number, Answers}
use Rattle.words.specs.Bytes.{little}
use Rattle.cipher.specs.declared.State as machine-state
use Rattle.cipher.specs.Machine.{state_of}
use Rattle.start.specs.declared.Mode as machine-mode
use Rattle.start.specs.declared.Mode.TheVariants.{Plain, Sealed}
use Rattle.start.specs.declared.Origin.{Origin}
use Rattle.start.specs.Start.{Mode, Mode.plain, Mode.sealed, started, start_number}
use Rattle.start.specs.Leads.{Traced, Traced.origin, Traced.refused}

abbrev pub mode_of : machine-mode.Mode → Mode
mode_of Plain = plain
mode_of Sealed = sealed

-- what a start answers: document 01's number, and the state
abbrev pub Starts : (key iv : List ℕ) → Mode → Result machine-state.State Refusal → Type 0
Starts key iv m r = Answers r (start_number key iv) (λ s. state_of s ≡ started key iv m)

-- document 01's number and values for each case of the answer to a trace: the IV is the two halves' bytes, low byte first
abbrev pub traced_of : Result Origin Refusal → Traced
traced_of (Ok o) = origin (little 8 o.lo ++ little 8 o.hi) (mode_of o.mode)
traced_of (Err e) = refused (refusal_number e)
