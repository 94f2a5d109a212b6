-- What is stated of steps beside the contracts: of the registers (document 01, "Round, step and step back"; `steps_back` of proofs/StepsBack.antt proves
-- it), and of states with their counts (document 02, S-2; `steps_counted` of proofs/CountedSteps.antt).
use Rattle.std.specs.Prelude.{ℕ, zero, suc, ◌+◌, ◌*◌, ◌≤◌, ◌<◌, ◌≡◌, ◌↔◌, Bool, not, List, [], ◌∷◌, ◌++◌, ltb}
use Rattle.scope.specs.Limits.{most_blocks}
use Rattle.scope.specs.Refusals.{refuse, granted, count_too_high, short_output}
use Rattle.cipher.specs.Registers.{Registers, IsRegisters}
use Rattle.cipher.specs.Step.{z, step}
use Rattle.cipher.specs.Back.{back}
use Rattle.cipher.specs.Run.{forward, backward, move, made, moves, zs}
use Rattle.cipher.specs.State.{State, Drawn.block, steps_number, step_number, step_state, step_answer, run_number, run_state}

-- blocks in the opposite order
abbrev pub reversed : List (List ℕ) → List (List ℕ)
reversed [] = []
reversed (x ∷ xs) = reversed xs ++ (x ∷ [])

pub record StepsBack : Type 0 where
  -- "Stepping back turns each state into the only one whose step leads to it,
  pub only : (s t : Registers) → IsRegisters s → IsRegisters t → (step t ≡ s) ↔ (back s ≡ t)
  -- and gives that step's z."
  pub its_z : (s t : Registers) → IsRegisters t → step t ≡ s → made backward s ≡ z t
  -- "From every state, equally many steps forward and back, or back and forward, return it."
  pub returns : (d : Bool) (n : ℕ) (s : Registers) → IsRegisters s → moves (not d) n (moves d n s) ≡ s
  -- Either way registers lead to registers.
  pub stays : (d : Bool) (s : Registers) → IsRegisters s → IsRegisters (move d s)
  -- The blocks of the way back are those of the way there, in the opposite order.
  pub blocks_again : (d : Bool) (n : ℕ) (s : Registers) → IsRegisters s → zs (not d) n (moves d n s) ≡ reversed (zs d n s)

-- ---- states with their counts

-- n calls of a step in a direction, one after the other: a refused one leaves the state
unfoldable pub steps : Bool → ℕ → State → State
steps d zero s = s
steps d (suc n) s = step_state d (steps d n s)

-- none of them is refused
unfoldable pub NoneRefused : Bool → ℕ → State → Type 0
NoneRefused d zero s = Unit
NoneRefused d (suc n) s = NoneRefused d n s × (step_number d (steps d n s) ≡ 0)

pub record StepsCounted : Type 0 where
  -- "Forward and back, or back and forward, returns the state as long as no step is refused": the count with it. Where none is refused on the way there,
  -- none is on the way back.
  pub returns : (d : Bool) (n : ℕ) (s : State) → IsRegisters s.registers → NoneRefused d n s
      → (steps (not d) n (steps d n s) ≡ s) × NoneRefused (not d) n (steps d n s)
  -- When none is refused, said by the counts alone,
  pub none_refused : (d : Bool) (n : ℕ) (s : State) → s.count ≤ most_blocks → NoneRefused d n s ↔ (steps_number d n s.count ≡ 0)
  -- and by inequalities, for each direction.
  pub forward_fits : (n c : ℕ) → (steps_number forward n c ≡ 0) ↔ (c + n ≤ most_blocks)
  pub back_fits : (n c : ℕ) → (steps_number backward n c ≡ 0) ↔ (n ≤ c) × (c ≤ most_blocks)
  -- "A state whose count is over 65,538 gives 9 in every step, run and trace": a run of no block too. (Of trace `Traces` says it.)
  pub over : (d : Bool) (n c : ℕ) → most_blocks < c → steps_number d n c ≡ count_too_high
  -- A run "that would meet either" refusal is refused with it, and else only for room;
  pub run_refused : (d : Bool) (c len n : ℕ) → run_number d c len n ≡ granted (steps_number d n c) (refuse (ltb len (16 * n)) short_output 0) (steps_number d n c)
  -- one that is accepted takes n steps, none of them refused, leads where they lead, and block i of it is what step i + 1 answers.
  pub run_steps : (d : Bool) (len n : ℕ) (s : State) → run_number d s.count len n ≡ 0 → NoneRefused d n s × (run_state d s len n ≡ steps d n s)
  pub its_blocks : (d : Bool) (n : ℕ) (s : State) → NoneRefused d n s → (i : ℕ) → i < n → step_answer d (steps d i s) ≡ block (made d (moves d i s.registers))
