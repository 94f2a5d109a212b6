-- The 120 bytes of a state: they and the state determine each other, and how code writes and reads them.
use mathlib.Core.Path.{◌≡◌, sym, ap, ◌∙◌}
use mathlib.Core.List.{List, [], ◌∷◌, ◌++◌, append_assoc, append-nil}
use Prim.Native.Nat.{ℕ, ◌+◌, ◌≤◌}
use native.Mathlib.Omega.{arith}
use lib.Dec.{lit<, lit≤}
use lib.ListN.{length, drop}
use lib.Seq.{sets, take_all}
use Rattle.words.specs.Bytes.{little, number, Row, part}
use Rattle.words.proofs.Rows.{row_append}
use Rattle.words.proofs.Bytes.{little_long, little_row, number_little, little_number, number_lt}
use Rattle.words.proofs.Parts.{part_part, part_row, At, down, here, grow}
use Rattle.words.proofs.Writing.{put_next, put_front}
use Rattle.cipher.specs.Registers.{Registers}
use Rattle.cipher.specs.State.{State}
use Rattle.layout.specs.Block.{registers_bytes, registers_at}
use Rattle.layout.proofs.RegisterBytes.{good_row, registers_back, bytes_back, at_good}
use Rattle.bytes_c.specs.StateBytes.{state_bytes, state_in, LeavesState}
use Rattle.bytes_c.proofs.Sizes.{SizedState}

-- ---- from the state to its bytes and back

module _ (s : State) (g : SizedState s) where
  registers_row : Row 112 256 (registers_bytes s.registers)
  registers_row = good_row s.registers g.registers_good

  pub state_row : Row 120 256 (state_bytes s)
  unfolding state_bytes
  state_row = row_append 256 112 8 registers_row (little_row 8 s.count)

  -- whatever stands behind them
  module _ (r : List ℕ) where
    at0 : At (state_bytes s ++ r) 0 (registers_bytes s.registers ∷ little 8 s.count ∷ r ∷ [])
    unfolding state_bytes
    at0 = record { is = simp (append_assoc, append-nil) }

    pub state_back : state_in (state_bytes s ++ r) ≡ s
    unfolding state_in
    state_back =
        let d112 = down at0 112 registers_row.long in
        let registers = ap registers_at (here at0 112 registers_row.long) ∙ registers_back s.registers g.registers_good in
        let count = ap number (here d112 8 (little_long 8 s.count)) ∙ number_little 8 s.count g.count_fits in
        λ i. record { registers = registers i; count = count i }

  -- the bytes of a state list it, and no other does
  pub state_whole : state_in (state_bytes s) ≡ s
  state_whole = ap state_in (sym (append-nil (state_bytes s))) ∙ state_back []

  -- ---- how code writes them

  pub put_state : (out : List ℕ) (at : ℕ) {o1 o2 : List ℕ} → o1 ≡ sets out at (registers_bytes s.registers)
      → o2 ≡ sets o1 (at + 112) (little 8 s.count) → o2 ≡ sets out at (state_bytes s)
  unfolding state_bytes
  put_state out at e1 e2 =
      put_next out (registers_bytes s.registers) (little 8 s.count) at (at + 112) (let l = registers_row.long in omega arith) e1 e2

  -- to the front of a buffer
  pub state_stored : (out : List ℕ) → 120 ≤ length out → {o : List ℕ} → o ≡ sets out 0 (state_bytes s) → LeavesState 0 s out o
  state_stored out fits e =
      let f = e ∙ put_front out (state_bytes s) 120 state_row.long fits in
      record { bytes = f; lists = ap state_in f ∙ state_back (drop 120 out) }

-- ---- from the bytes to the state and back

module _ (b : List ℕ) (r : Row 120 256 b) where
  row : (at k : ℕ) → at + k ≤ 120 → Row k 256 (part at k b)
  row at k h = part_row 256 120 (lit< tt) r at k h

  pub listed_back : state_bytes (state_in b) ≡ b
  unfolding state_bytes state_in
  listed_back =
      grow b 112 8 (bytes_back (part 0 112 b) (row 0 112 (lit≤ tt))) (little_number 8 (part 112 8 b) (row 112 8 (lit≤ tt)))
      ∙ take_all 120 b (omega (arith, r.long))

  pub listed_sized : SizedState (state_in b)
  unfolding state_in
  listed_sized =
      record {
        registers_good = at_good (part 0 112 b) (row 0 112 (lit≤ tt));
        count_fits = number_lt 8 (part 112 8 b) (row 112 8 (lit≤ tt));
      }

-- ---- how code reads them

pub get_state : (b : List ℕ) (at : ℕ) {registers : Registers} {count : ℕ} → registers ≡ registers_at (part at 112 b) → count ≡ number (part (at + 112) 8 b)
    → ◌≡◌ {A = State} (record { registers = registers; count = count }) (state_in (part at 120 b))
unfolding state_in
get_state b at er ec =
    let z : at ≡ at + 0 = omega arith in
    let fr = er ∙ ap (λ (n : ℕ). registers_at (part n 112 b)) z ∙ ap registers_at (sym (part_part b at 120 0 112 (lit≤ tt))) in
    let fc = ec ∙ ap number (sym (part_part b at 120 112 8 (lit≤ tt))) in
    λ i. record { registers = fr i; count = fc i }
