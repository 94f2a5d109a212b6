-- How the code holds registers and states: `registers_of` says which registers those of the code are, `state_of` which state, and contracts speak of these.
use Rattle.std.specs.Prelude.{Bool, ◌≡◌, Result, Ok, Err}
use Rattle.scope.specs.declared.Refusal.{Refusal}
use Rattle.scope.specs.Machine.{refusal_number}
use Rattle.words.specs.declared.Block.{Block}
use Rattle.words.specs.Machine.{bytes_of}
use Rattle.lfsr.specs.Machine.{lfsr_of}
use Rattle.cipher.specs.declared.Registers as machine-registers
use Rattle.cipher.specs.declared.State as machine-state
use Rattle.cipher.specs.declared.Moved.{Moved}
use Rattle.cipher.specs.declared.Stepped.{Stepped}
use Rattle.cipher.specs.Registers.{Registers}
use Rattle.cipher.specs.Run.{move, made}
use Rattle.cipher.specs.State.{State, Drawn, Drawn.block, Drawn.refused, step_state, step_answer}

abbrev pub registers_of : machine-registers.Registers → Registers
registers_of s = record { lfsr = lfsr_of s.lfsr; r1 = bytes_of s.r1; r2 = bytes_of s.r2; r3 = bytes_of s.r3 }

abbrev pub state_of : machine-state.State → State
state_of s = record { registers = registers_of s.registers; count = s.count }

-- the state that a call leaves: the one that it leads to, or where it is refused s, as it was
abbrev pub state_after : machine-state.State → Result machine-state.State Refusal → State
state_after s (Ok t) = state_of t
state_after s (Err e) = state_of s

-- document 01's number and values for each case of the answer to a step
abbrev pub drawn_of : Result Block Refusal → Drawn
drawn_of (Ok b) = block (bytes_of b)
drawn_of (Err e) = refused (refusal_number e)

-- one step of the registers in a direction, from s: those it leads to, and the block
pub record Moves (d : Bool) (s : machine-registers.Registers) (r : Moved) : Type 0 where
  pub registers : registers_of r.registers ≡ move d (registers_of s)
  pub z : bytes_of r.z ≡ made d (registers_of s)

-- the two parts of a step's answer: its state, and its block
abbrev pub its_state : Result Stepped Refusal → Result machine-state.State Refusal
its_state (Ok w) = Ok w.state
its_state (Err e) = Err e

abbrev pub its_block : Result Stepped Refusal → Result Block Refusal
its_block (Ok w) = Ok w.z
its_block (Err e) = Err e

-- one step of a state in a direction, from s: the state that it leaves, and its answer
pub record Steps (d : Bool) (s : machine-state.State) (r : Result Stepped Refusal) : Type 0 where
  pub state : state_after s (its_state r) ≡ step_state d (state_of s)
  pub answer : drawn_of (its_block r) ≡ step_answer d (state_of s)
