-- Cases of document 02's S-2, in its order: what steps, runs and traces make of a state's count, at both ends of the counts and past the greatest.
use Rattle.std.specs.Prelude.{ℕ, ◌-◌, ◌*◌, ◌^◌, ◌≡◌, Bool, List, [], replicate}
use Rattle.cipher.specs.Registers.{Registers}
use Rattle.cipher.specs.Step.{z}
use Rattle.cipher.specs.Back.{back}
use Rattle.cipher.specs.Run.{forward, backward}
use Rattle.cipher.specs.State.{State, Drawn.block, Drawn.refused, step_state, step_answer, run_number, run_state, run_part}
use Rattle.start.specs.Start.{Mode, started}
use Rattle.start.specs.Leads as leads
use Rattle.start.specs.Trace.{trace}

-- registers with a count beside them
abbrev pub at : ℕ → Registers → State
at n r = record { registers = r; count = n }

-- a step is refused with a number, and leaves the state
abbrev pub StepRefused : Bool → ℕ → State → Type 0
StepRefused d n s = (step_answer d s ≡ refused n) × (step_state d s ≡ s)

-- a step gives a block, and leads to a count
abbrev pub StepLeads : Bool → List ℕ → ℕ → State → Type 0
StepLeads d b n s = (step_answer d s ≡ block b) × ((step_state d s).count ≡ n)

-- a run of n blocks into len bytes leaves the state, and its part of the output is empty
abbrev pub RunLeaves : Bool → (len n : ℕ) → State → Type 0
RunLeaves d len n s = (run_state d s len n ≡ s) × (run_part d s len n ≡ [])

-- a run of no block is accepted, and leaves the state and the output
abbrev pub RunNone : Bool → State → Type 0
RunNone d s = (run_number d s.count 0 0 ≡ 0) × RunLeaves d 0 0 s

-- every step, run and trace of a state is refused with 9
pub record All9 (s : State) : Type 0 where
  pub steps : (d : Bool) → StepRefused d 9 s
  pub runs : (d : Bool) (len n : ℕ) → (run_number d s.count len n ≡ 9) × RunLeaves d len n s
  pub traces : trace s (replicate 32 0) ≡ leads.Traced.refused 9

pub record Counts : Type 0 where
  -- "0 at the start; forward adds one, back takes one": the first and the last step of either way
  pub from_0 : (key iv : List ℕ) (m : Mode) → (started key iv m).count ≡ 0
  pub to_1 : (r : Registers) → StepLeads forward (z r) 1 (at 0 r)
  pub to_65538 : (r : Registers) → StepLeads forward (z r) 65538 (at 65537 r)
  pub to_65537 : (r : Registers) → StepLeads backward (z (back r)) 65537 (at 65538 r)
  pub to_0 : (r : Registers) → StepLeads backward (z (back r)) 0 (at 1 r)
  -- "A step back at 0 gives 15 and a step forward at 65,538 gives 9"
  pub back_at_0 : (r : Registers) → StepRefused backward 15 (at 0 r)
  pub forward_at_65538 : (r : Registers) → StepRefused forward 9 (at 65538 r)
  -- "and a run that would meet either is refused before it writes": a block too many for the count, though not for the output
  pub run_past_65538 : (r : Registers) → (run_number forward 65530 144 9 ≡ 9) × RunLeaves forward 144 9 (at 65530 r)
  pub run_past_0 : (r : Registers) → (run_number backward 8 144 9 ≡ 15) × RunLeaves backward 144 9 (at 8 r)
  -- a block less is accepted, and so is the longest run
  pub run_to_65538 : (run_number forward 65530 128 8 ≡ 0) × (run_number forward 0 (16 * 65538) 65538 ≡ 0)
  pub run_to_0 : (run_number backward 8 128 8 ≡ 0) × (run_number backward 65538 (16 * 65538) 65538 ≡ 0)
  -- "in the order 9 (also for n over 65,538, even backward), 15, 4": each run but those of `only_4` breaks two rules
  pub first_9_then_15 : (run_number backward 0 (16 * 65539) 65539 ≡ 9) × (run_number backward 65538 (16 * 65539) 65539 ≡ 9)
  pub first_9_then_4 : (run_number forward 65538 15 1 ≡ 9) × (run_number forward 0 15 65539 ≡ 9)
  pub first_15_then_4 : run_number backward 0 15 1 ≡ 15
  pub only_4 : (run_number forward 0 15 1 ≡ 4) × (run_number backward 65538 15 1 ≡ 4)
  -- a run of no block is accepted at both ends, either way, and draws nothing
  pub none_at_0 : (r : Registers) → RunNone forward (at 0 r) × RunNone backward (at 0 r)
  pub none_at_65538 : (r : Registers) → RunNone forward (at 65538 r) × RunNone backward (at 65538 r)
  -- "A state whose count is over 65,538 gives 9 in every step, run and trace": the next count, and the greatest that 64 bits hold
  pub over_65538 : (r : Registers) → All9 (at 65539 r)
  pub greatest : (r : Registers) → All9 (at (2 ^ 64 - 1) r)
  -- of a trace 1 comes first, whatever the count
  pub trace_first_1 : (s : State) → trace s (replicate 31 0) ≡ leads.Traced.refused 1
