-- A state that carries its own count, and what steps and runs make of it (document 02, S-2, over document 01, "Round, step and step back"). Document 01's
-- cipher state is the registers alone.
use Rattle.std.specs.Prelude.{ℕ, ◌+◌, ◌-◌, ◌*◌, Bool, true, false, not, ◌&&◌, ◌||◌, List, [], ltb}
use Rattle.scope.specs.Limits.{most_blocks}
use Rattle.scope.specs.Refusals.{refuse, granted, count_too_high, before_start, short_output}
use Rattle.cipher.specs.Registers.{Registers}
use Rattle.cipher.specs.Run.{made, moves, blocks}

pub record State : Type 0 where
  pub registers : Registers
  -- how many blocks lie between the start, where it is 0, and here
  pub count : ℕ

-- ---- steps that are not refused

-- "forward adds one, back takes one": n of them
abbrev pub counted : Bool → (n count : ℕ) → ℕ
counted true n c = c - n
counted false n c = c + n

-- the state that n steps in a direction lead to
abbrev pub moved : Bool → ℕ → State → State
moved d n s = record { registers = moves d n s.registers; count = counted d n s.count }

-- ---- refusals of n steps from a count

-- 9: "a state whose count is over 65,538", "n over 65,538, even backward", and "a step forward at 65,538" among the n
abbrev pub too_far : Bool → (n count : ℕ) → Bool
too_far d n c = ltb most_blocks c || ltb most_blocks n || (not d && ltb most_blocks (c + n))

-- 15: "a step back at 0" among the n
abbrev pub past_start : Bool → (n count : ℕ) → Bool
past_start d n c = d && ltb c n

-- 9, 15
unfoldable pub steps_number : Bool → (n count : ℕ) → ℕ
steps_number d n c = refuse (too_far d n c) count_too_high (refuse (past_start d n c) before_start 0)

-- ---- one step in a direction: its number, the state that it leaves, and its answer

abbrev pub step_number : Bool → State → ℕ
step_number d s = steps_number d 1 s.count

-- a refused step leaves the state
unfoldable pub step_state : Bool → State → State
step_state d s = granted (step_number d s) (moved d 1 s) s

-- its block z, or the refusal's number only
pub data Drawn : Type 0 where
  block : (z : List ℕ) → Drawn
  refused : ℕ → Drawn

unfoldable pub step_answer : Bool → State → Drawn
step_answer d s = granted (step_number d s) (block (made d s.registers)) (refused (step_number d s))

-- ---- a run of n blocks into a lent output of len bytes: its number, the state that it leaves, and its part of the output

-- 9, 15, 4
unfoldable pub run_number : Bool → (count len n : ℕ) → ℕ
run_number d c len n =
    refuse (too_far d n c) count_too_high (refuse (past_start d n c) before_start (refuse (ltb len (16 * n)) short_output 0))

-- a refused run leaves the state, and its part of the output is empty
unfoldable pub run_state : Bool → State → (len n : ℕ) → State
run_state d s len n = granted (run_number d s.count len n) (moved d n s) s

unfoldable pub run_part : Bool → State → (len n : ℕ) → List ℕ
run_part d s len n = granted (run_number d s.count len n) (blocks d n s.registers) []
