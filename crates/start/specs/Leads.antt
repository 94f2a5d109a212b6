-- Where a cipher state comes from, and what trace answers (document 01, "Start and trace").
use Rattle.std.specs.Prelude.{ℕ, ◌≤◌, ◌<◌, ◌≡◌, ◌↔◌, List, length}
use Rattle.scope.specs.Limits.{most_blocks}
use Rattle.scope.specs.Refusals.{key_length, count_too_high, no_origin}
use Rattle.words.specs.Bytes.{IsBlock}
use Rattle.cipher.specs.Registers.{Registers}
use Rattle.cipher.specs.Run.{forward, moves}
use Rattle.cipher.specs.State.{State}
use Rattle.start.specs.Start.{Mode, start}

-- "A stay number and mode lead to a cipher state, under a key and at a count of blocks drawn, where their start under that key, moved on by that
-- many steps, is it."
pub record LeadsTo (key : List ℕ) (n : ℕ) (iv : List ℕ) (m : Mode) (s : Registers) : Type 0 where
  pub iv_block : IsBlock iv
  pub arrives : moves forward n (start key iv m) ≡ s

-- "its answer is either the stay number with its mode or a refusal"
pub data Traced : Type 0 where
  origin : (iv : List ℕ) (m : Mode) → Traced
  refused : ℕ → Traced

-- a key of 32 bytes, and a state whose count is not over 65,538: neither 1 nor 9
abbrev pub Traceable : State → (key : List ℕ) → Type 0
Traceable s key = (length key ≡ 32) × (s.count ≤ most_blocks)

-- an IV and mode lead to a state's registers at its own count
abbrev pub LeadsToState : (key iv : List ℕ) → Mode → State → Type 0
LeadsToState key iv m s = LeadsTo key s.count iv m s.registers

-- What trace answers of a state, whose count it reads there, in the order 1, 9, 6: "the one stay number and mode that lead to a state, and is refused with 6
-- exactly when none leads there".
pub record Traces (s : State) (key : List ℕ) (a : Traced) : Type 0 where
  pub wrong_key : (a ≡ refused key_length) ↔ ¬ (length key ≡ 32)
  pub too_far : (a ≡ refused count_too_high) ↔ (length key ≡ 32) × (most_blocks < s.count)
  pub found : (iv : List ℕ) (m : Mode) → (a ≡ origin iv m) ↔ Traceable s key × LeadsToState key iv m s
  pub none : (a ≡ refused no_origin) ↔ Traceable s key × ((iv : List ℕ) (m : Mode) → ¬ LeadsToState key iv m s)
