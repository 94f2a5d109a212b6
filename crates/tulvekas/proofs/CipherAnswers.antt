-- The answers of keystream, start, run, the state of a block and trace, by what they find.
use mathlib.Core.Path.{◌≡◌, refl, sym, ap, ◌∙◌}
use mathlib.Core.Bool.{true, false}
use mathlib.Core.List.{List, [], ◌∷◌, ◌++◌}
use Prim.Native.Nat.{ℕ, ◌*◌, ◌≤◌, ◌<◌}
use native.Mathlib.Omega.{arith}
use borrow.Author.Tests.{eq-eqb, ne_eqb, lt-ltb, le-ltb}
use lib.ListN.{length, drop}
use lib.Seq.{sets, take_all}
use Rattle.words.specs.Bytes.{part}
use Rattle.words.proofs.Writing.{put_front}
use Rattle.scope.specs.Limits.{most_blocks}
use Rattle.cipher.specs.Registers.{Registers, IsRegisters}
use Rattle.cipher.specs.Run.{forward, blocks}
use Rattle.cipher.specs.State.{State, moved, run_number, run_state, run_part}
use Rattle.cipher.proofs.Moves.{blocks_length}
use Rattle.start.specs.Start.{Mode, start_number}
use Rattle.start.specs.Leads.{Traced, Traced.origin, Traced.refused}
use Rattle.start.specs.Trace.{trace}
use Rattle.layout.specs.Rules.{well_laid}
use Rattle.bytes_c.specs.Order.{room}
use Rattle.bytes_c.specs.StateBytes.{state_in}
use Rattle.bytes_c.specs.Modes.{mode_byte}
use Rattle.bytes_c.proofs.Answering.{never, unwritten, accepted, short, fits}
use Rattle.tulvekas.specs.Cipher.{fitting, keystream_answer, start_answer, back_named, run_answer, run_writes, state_of_answer, trace_of_bytes, trace_answer, trace_iv, trace_sealed}
use Rattle.tulvekas.proofs.Answering.{below_refuses, then_refused, then_short, then_fits}

module _ (key iv out : List ℕ) {n : ℕ} (e : n ≡ start_number key iv) where
  pub keystream_refused : ¬ (n ≡ 0) → n ≡ keystream_answer key iv out
  unfolding keystream_answer
  keystream_refused h = e ∙ below_refuses (start_number key iv) _ (λ z. h (e ∙ z))

  module _ (z : n ≡ 0) where
    pub keystream_far : most_blocks < fitting out → 9 ≡ keystream_answer key iv out
    unfolding keystream_answer
    keystream_far h = rw (← e, z, lt-ltb most_blocks (fitting out) h)

    pub keystream_right : fitting out ≤ most_blocks → 0 ≡ keystream_answer key iv out
    unfolding keystream_answer
    keystream_right h = rw (← e, z, le-ltb most_blocks (fitting out) h)

-- all whole blocks that fit, at the front
pub run_fills : (s : Registers) → IsRegisters s → (out o : List ℕ) → o ≡ sets out 0 (blocks forward (fitting out) s)
    → o ≡ blocks forward (fitting out) s ++ drop (16 * fitting out) out
run_fills s g out o e = e ∙ put_front out (blocks forward (fitting out) s) (16 * fitting out) (blocks_length forward (fitting out) s g) (omega arith)

-- ---- start

module _ (key iv s : List ℕ) {n : ℕ} (e : n ≡ start_number key iv) where
  pub start_refused : ¬ (n ≡ 0) → n ≡ start_answer key iv s
  unfolding start_answer
  start_refused = then_refused 120 s e

  module _ (z : n ≡ 0) where
    pub start_short : length s < 120 → 4 ≡ start_answer key iv s
    unfolding start_answer
    start_short = then_short 120 s e z

    pub start_right : 120 ≤ length s → 0 ≡ start_answer key iv s
    unfolding start_answer
    start_right = then_fits 120 s e z

-- ---- run

-- what a state's whole 120 bytes list, read as a part of them
pub whole_state : (b : List ℕ) → length b ≡ 120 → state_in (part 0 120 b) ≡ state_in b
whole_state b h = ap state_in (take_all 120 b (omega arith))

module _ (s : List ℕ) (n back : ℕ) (out : List ℕ) where
  pub run_bad_state : ¬ (length s ≡ 120) → 8 ≡ run_answer s n back out
  unfolding run_answer
  run_bad_state h = rw (ne_eqb (length s) 120 h)

  -- r is what the run below answers, w how many bytes it writes, u the state that the bytes list
  module _ (long : length s ≡ 120) {u : State} (eu : u ≡ state_in s) {r : ℕ} (e : r ≡ run_number (back_named back) u.count (length out) n) where
    pub run_below : r ≡ run_answer s n back out
    unfolding run_answer
    run_below = rw (eq-eqb (length s) 120 long) (e ∙ ap (λ (v : State). run_number (back_named back) v.count (length out) n) eu)

    pub run_moves : r ≡ 0 → run_state (back_named back) u (length out) n ≡ moved (back_named back) n (state_in s)
    unfolding run_state
    run_moves z = rw (← e, z) (ap (moved (back_named back) n) eu)

    module _ {w : ℕ} (ew : w ≡ length (run_part (back_named back) u (length out) n)) where
      pub run_unwritten : ¬ (r ≡ 0) → run_part (back_named back) u (length out) n ++ drop w out ≡ run_writes s n back out
      unfolding run_part
      run_unwritten h = rw (ew, ← e, ne_eqb r 0 h) (unwritten run_below (16 * n) (blocks (back_named back) n (state_in s).registers) out h)

      pub run_written : r ≡ 0 → IsRegisters u.registers → run_part (back_named back) u (length out) n ++ drop w out ≡ run_writes s n back out
      unfolding run_part
      run_written z g =
          rw (ew, ← e, z) (ap (λ (k : ℕ). blocks (back_named back) n u.registers ++ drop k out) (blocks_length (back_named back) n u.registers g)
          ∙ ap (λ (v : State). blocks (back_named back) n v.registers ++ drop (16 * n) out) eu
          ∙ accepted (sym z ∙ run_below) (blocks (back_named back) n (state_in s).registers ++ drop (16 * n) out) out)

-- ---- the state of a block

module _ (b s : List ℕ) where
  pub state_of_bad : well_laid b ≡ false → 8 ≡ state_of_answer b s
  unfolding state_of_answer
  state_of_bad h = rw h

  module _ (h : well_laid b ≡ true) where
    pub state_of_short : length s < 120 → 4 ≡ state_of_answer b s
    unfolding state_of_answer
    state_of_short k = rw h (short 120 s 0 k)

    pub state_of_right : 120 ≤ length s → 0 ≡ state_of_answer b s
    unfolding state_of_answer
    state_of_right k = rw h (fits 120 s 0 k)

-- ---- trace

module _ (s key : List ℕ) where
  pub trace_bad_key : ¬ (length key ≡ 32) → refused 1 ≡ trace_of_bytes s key
  unfolding trace_of_bytes
  trace_bad_key h = rw (ne_eqb (length key) 32 h)

  pub trace_bad_state : length key ≡ 32 → ¬ (length s ≡ 120) → refused 8 ≡ trace_of_bytes s key
  unfolding trace_of_bytes
  trace_bad_state h k = rw (eq-eqb (length key) 32 h, ne_eqb (length s) 120 k)

  pub trace_walks : length key ≡ 32 → length s ≡ 120 → trace (state_in s) key ≡ trace_of_bytes s key
  unfolding trace_of_bytes
  trace_walks h k = rw (eq-eqb (length key) 32 h, eq-eqb (length s) 120 k)

-- what the code answers, and leaves in both buffers
abbrev pub Told : Traced → (iv flag : List ℕ) → ℕ → (iv' flag' : List ℕ) → Type 0
Told a iv flag r iv' flag' = (r ≡ trace_answer a iv flag) × ((iv' ≡ trace_iv a iv flag) × (flag' ≡ trace_sealed a iv flag))

module _ (iv flag : List ℕ) {a : Traced} where
  pub told_refused : (n : ℕ) → a ≡ refused n → Told a iv flag n iv flag
  unfolding trace_answer trace_iv trace_sealed
  told_refused n e = rw e (refl, (refl, refl))

  module _ (v : List ℕ) (m : Mode) (e : a ≡ origin v m) where
    told_short : 4 ≡ room 16 iv (room 1 flag 0) → Told a iv flag 4 iv flag
    unfolding trace_answer trace_iv trace_sealed
    told_short h = rw e (h, (unwritten h 16 v iv (never 3), unwritten h 1 (mode_byte m ∷ []) flag (never 3)))

    pub told_short_iv : length iv < 16 → Told a iv flag 4 iv flag
    told_short_iv h = told_short (short 16 iv (room 1 flag 0) h)

    pub told_short_sealed : 16 ≤ length iv → length flag < 1 → Told a iv flag 4 iv flag
    told_short_sealed h k = told_short (short 1 flag 0 k ∙ fits 16 iv (room 1 flag 0) h)

    pub told_found : 16 ≤ length iv → 1 ≤ length flag → {iv' flag' : List ℕ} → iv' ≡ v ++ drop 16 iv → flag' ≡ (mode_byte m ∷ []) ++ drop 1 flag
        → Told a iv flag 0 iv' flag'
    unfolding trace_answer trace_iv trace_sealed
    told_found h k ei es =
        let z : 0 ≡ room 16 iv (room 1 flag 0) = fits 1 flag 0 k ∙ fits 16 iv (room 1 flag 0) h in
        rw e (z, (ei ∙ accepted z (v ++ drop 16 iv) iv, es ∙ accepted z ((mode_byte m ∷ []) ++ drop 1 flag) flag))
