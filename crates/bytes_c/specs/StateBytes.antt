-- A state in 120 bytes, as C keeps it between calls, its count with it (document 02, S-2): 0-111 the registers as in bytes 16-127 of a suspended block,
-- 112-119 the count, low byte first.
use Rattle.std.specs.Prelude.{ℕ, ◌≡◌, List, ◌++◌}
use Rattle.scope.specs.Refusals.{granted}
use Rattle.words.specs.Bytes.{little, number, part}
use Rattle.cipher.specs.State.{State}
use Rattle.layout.specs.Block.{registers_bytes, registers_at}
use Rattle.bytes_c.specs.Order.{buffer_after}

unfoldable pub state_bytes : State → List ℕ
state_bytes s = registers_bytes s.registers ++ little 8 s.count

-- the state that bytes list
unfoldable pub state_in : List ℕ → State
state_in b = record { registers = registers_at (part 0 112 b); count = number (part 112 8 b) }

-- what a call that answers n and gives the state g leaves in a lent state: its bytes, and the state that they then list
pub record LeavesState (n : ℕ) (g : State) (state after : List ℕ) : Type 0 where
  pub bytes : after ≡ buffer_after n 120 (state_bytes g) state
  pub lists : state_in after ≡ granted n g (state_in state)
