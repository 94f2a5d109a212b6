-- Keystream, start, run and trace as C calls them (document 01, "Round, step and step back" and "Start and trace"; document 02, S-2), and the state of a
-- suspended block: for each the number that it answers, and what stands in each buffer that it was lent to write. A refusal changes no byte.
use Rattle.std.specs.Prelude.{ℕ, ◌*◌, ◌/◌, Bool, not, List, [], ◌∷◌, eqb, ltb, length}
use Rattle.scope.specs.Limits.{most_blocks}
use Rattle.scope.specs.Refusals.{pick, refuse, key_length, bad_block, count_too_high}
use Rattle.cipher.specs.Run.{forward, blocks}
use Rattle.cipher.specs.State.{moved, run_number}
use Rattle.start.specs.Start.{start, started, start_number}
use Rattle.start.specs.Leads.{Traced, Traced.origin, Traced.refused}
use Rattle.start.specs.Trace.{trace}
use Rattle.layout.specs.Block.{read}
use Rattle.layout.specs.Rules.{well_laid}
use Rattle.suspend.specs.Calls.{state_for}
use Rattle.bytes_c.specs.Order.{next, room, buffer_after}
use Rattle.bytes_c.specs.StateBytes.{state_in, LeavesState}
use Rattle.bytes_c.specs.Modes.{mode_named, mode_byte}

-- ---- keystream: 1, 2, 9

-- whole blocks that fit
abbrev pub fitting : (out : List ℕ) → ℕ
fitting out = length out / 16

unfoldable pub keystream_answer : (key iv out : List ℕ) → ℕ
keystream_answer key iv out = next (start_number key iv) (refuse (ltb most_blocks (fitting out)) count_too_high 0)

-- the blocks from block 0 on
abbrev pub keystream_writes : (key iv : List ℕ) (flag : ℕ) (out : List ℕ) → List ℕ
keystream_writes key iv flag out =
    buffer_after (keystream_answer key iv out) (16 * fitting out) (blocks forward (fitting out) (start key iv (mode_named flag))) out

-- ---- start: 1, 2, 4

unfoldable pub start_answer : (key iv state : List ℕ) → ℕ
start_answer key iv s = next (start_number key iv) (room 120 s 0)

abbrev pub StartLeaves : (key iv : List ℕ) (flag : ℕ) (state after : List ℕ) → Type 0
StartLeaves key iv flag s after = LeavesState (start_answer key iv s) (started key iv (mode_named flag)) s after

-- a state that is read is 120 bytes
abbrev pub is_state : (state : List ℕ) → Bool
is_state s = eqb (length s) 120

-- ---- run: 8 for a state that is not 120 bytes, 9, 15, 4

-- a direction as C names it: 0 forward, any other number back
abbrev pub back_named : ℕ → Bool
back_named n = not (eqb n 0)

unfoldable pub run_answer : (state : List ℕ) (n back : ℕ) (out : List ℕ) → ℕ
run_answer s n back out = refuse (not (is_state s)) bad_block (run_number (back_named back) (state_in s).count (length out) n)

abbrev pub RunLeaves : (state : List ℕ) (n back : ℕ) (out after : List ℕ) → Type 0
RunLeaves s n back out after = LeavesState (run_answer s n back out) (moved (back_named back) n (state_in s)) s after

-- the blocks, in the order made
abbrev pub run_writes : (state : List ℕ) (n back : ℕ) (out : List ℕ) → List ℕ
run_writes s n back out = buffer_after (run_answer s n back out) (16 * n) (blocks (back_named back) n (state_in s).registers) out

-- ---- the state of a suspended block: 8 for a block that breaks a layout rule, 4

unfoldable pub state_of_answer : (block state : List ℕ) → ℕ
state_of_answer b s = refuse (not (well_laid b)) bad_block (room 120 s 0)

abbrev pub StateOfLeaves : (block state after : List ℕ) → Type 0
StateOfLeaves b s after = LeavesState (state_of_answer b s) (state_for (read b)) s after

-- ---- trace: 1, 8 for a state that is not 120 bytes, 9, 6, 4 for either buffer

unfoldable pub trace_of_bytes : (state key : List ℕ) → Traced
trace_of_bytes s key =
    pick (not (eqb (length key) 32))
    (refused key_length)
    (pick (not (is_state s)) (refused bad_block) (trace (state_in s) key))

unfoldable pub trace_answer : Traced → (iv flag : List ℕ) → ℕ
trace_answer (refused n) iv flag = n
trace_answer (origin v m) iv flag = room 16 iv (room 1 flag 0)

-- the IV
unfoldable pub trace_iv : Traced → (iv flag : List ℕ) → List ℕ
trace_iv (refused n) iv flag = iv
trace_iv (origin v m) iv flag = buffer_after (room 16 iv (room 1 flag 0)) 16 v iv

-- and the mode
unfoldable pub trace_sealed : Traced → (iv flag : List ℕ) → List ℕ
trace_sealed (refused n) iv flag = flag
trace_sealed (origin v m) iv flag = buffer_after (room 16 iv (room 1 flag 0)) 1 (mode_byte m ∷ []) flag
