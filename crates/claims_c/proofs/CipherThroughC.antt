-- Keystream and trace through C are start, run and trace below: a run of as many whole blocks as fit is not refused for room, and of 120 bytes trace
-- is that of the state which they list.
use mathlib.Core.Path.{◌≡◌, refl, sym, ap, subst, ◌∙◌}
use mathlib.Core.Bool.{Bool, true, false, ◌||◌}
use mathlib.Core.List.{List, [], ◌∷◌, ◌++◌}
use Prim.Native.Nat.{ℕ, ◌*◌, ◌≤◌, ◌<◌}
use native.Mathlib.Nat.{zero-add}
use native.Mathlib.Omega.{arith}
use native.Mathlib.Decide.{dec_lt}
use borrow.Author.Tests.{eqb-true, eqb-false, lt-ltb, le-ltb}
use lib.Dec.{eqb, ltb}
use lib.ListN.{length, drop}
use Rattle.scope.specs.Limits.{most_blocks}
use Rattle.scope.specs.Refusals.{granted, refuse, count_too_high}
use Rattle.cipher.specs.Registers.{Registers, IsRegisters}
use Rattle.cipher.specs.Run.{forward, blocks}
use Rattle.cipher.specs.State.{State, run_number, run_part}
use Rattle.cipher.proofs.Moves.{blocks_length}
use Rattle.start.specs.Start.{start, started, start_number}
use Rattle.start.specs.Leads.{Traced, Traced.origin, Traced.refused, Traces}
use Rattle.start.specs.Trace.{trace}
use Rattle.start.proofs.Answers as answers
use Rattle.start.proofs.Undo.{start_good}
use Rattle.start.proofs.Tracing.{traces as trace-law}
use Rattle.claims.specs.Lists.{Bytes}
use Rattle.claims.proofs.Within.{row_of}
use Rattle.claims.proofs.Demands.{start_keyed}
use Rattle.bytes_c.specs.Order.{next, room}
use Rattle.bytes_c.specs.StateBytes.{state_bytes, state_in}
use Rattle.bytes_c.specs.Modes.{mode_named, mode_byte}
use Rattle.bytes_c.proofs.Sizes.{SizedState}
use Rattle.bytes_c.proofs.StateLaws.{state_row, state_whole, listed_sized}
use Rattle.bytes_c.proofs.Answering.{fits, accepted}
use Rattle.tulvekas.specs.Cipher.{fitting, keystream_answer, keystream_writes, trace_of_bytes, trace_answer, trace_iv, trace_sealed}
use Rattle.tulvekas.proofs.Answering.{below_refuses, below_accepts}
use Rattle.tulvekas.proofs.CipherAnswers.{trace_bad_key, trace_walks}
use Rattle.claims_c.specs.ThroughC.{Told, TracesThroughC}

-- ---- keystream

module _ (key iv : Bytes) (mode : ℕ) (out : List ℕ) where
  n : ℕ
  n = fitting out

  number : ℕ
  number = start_number key.list iv.list

  later : ℕ
  later = refuse (ltb most_blocks n) count_too_high 0

  -- from a count of 0 a run is refused by its own length alone, and room for the blocks that fit is always there
  run_is : run_number forward 0 (length out) n ≡ later
  unfolding run_number n later
  run_is = rw (zero-add n, le-ltb (length out) (16 * fitting out) (omega arith)) (go (ltb most_blocks n))
    where
      go : (b : Bool) → refuse (b || b) count_too_high 0 ≡ refuse b count_too_high 0
      go true = refl
      go false = refl

  s : Registers
  s = start key.list iv.list (mode_named mode)

  all : List ℕ
  all = blocks forward n s

  drawn : List ℕ
  drawn = run_part forward (started key.list iv.list (mode_named mode)) (length out) n

  part_is : drawn ≡ granted later all []
  unfolding drawn all run_part s
  part_is = ap (λ (i : ℕ). granted i (blocks forward n s) []) run_is

  written : List ℕ → List ℕ
  written p = p ++ drop (length p) out

  -- with key and IV in order
  accepted_writes : number ≡ 0 → granted later (all ++ drop (16 * n) out) out ≡ written drawn
  unfolding written number later s all
  accepted_writes z = elim (dec_lt most_blocks n) [ yes q ↦ far q | no q ↦ near (omega arith) ]
    where
      far : most_blocks < n → granted later (all ++ drop (16 * n) out) out ≡ written drawn
      far q =
          let e : later ≡ 9 = rw (lt-ltb most_blocks n q) in
          ap (λ (i : ℕ). granted i (all ++ drop (16 * n) out) out) e ∙ ap written (sym (part_is ∙ ap (λ (i : ℕ). granted i all []) e))

      near : n ≤ most_blocks → granted later (all ++ drop (16 * n) out) out ≡ written drawn
      near q =
          let e : later ≡ 0 = rw (le-ltb most_blocks n q) in
          let l = start_keyed key iv z in
          let g : IsRegisters s = start_good key.list (row_of key l.key_long) iv.list (mode_named mode) (row_of iv l.iv_long) in
          ap (λ (i : ℕ). granted i (all ++ drop (16 * n) out) out) e
          ∙ ap (λ (i : ℕ). all ++ drop i out) (sym (blocks_length forward n s g))
          ∙ ap written (sym (part_is ∙ ap (λ (i : ℕ). granted i all []) e))

  writes : granted (next number later) (all ++ drop (16 * n) out) out ≡ granted number (written drawn) out
  writes = go (eqb number 0) refl
    where
      go : (b : Bool) → eqb number 0 ≡ b → granted (next number later) (all ++ drop (16 * n) out) out ≡ granted number (written drawn) out
      go true e =
          let z : number ≡ 0 = eqb-true number 0 e in
          ap (λ (i : ℕ). granted i (all ++ drop (16 * n) out) out) (sym (below_accepts number later (sym z)))
          ∙ accepted_writes z ∙ ap (λ (i : ℕ). granted i (written drawn) out) (sym z)
      go false e =
          ap (λ (i : ℕ). granted i (all ++ drop (16 * n) out) out) (sym (below_refuses number later (eqb-false number 0 e))) ∙ rw e

  pub keystream : let blocks = run_part forward (started key.list iv.list (mode_named mode)) (length out) (fitting out) in
      (keystream_answer key.list iv.list out ≡ next (start_number key.list iv.list) (run_number forward 0 (length out) (fitting out)))
      × (keystream_writes key.list iv.list mode out ≡ granted (start_number key.list iv.list) (blocks ++ drop (length blocks) out) out)
  unfolding keystream_answer n number later s all drawn written
  keystream = (ap (next number) (sym run_is), writes)

-- ---- trace

module _ (s key : List ℕ) (long : length s ≡ 120) where
  trace_is : trace (state_in s) key ≡ trace_of_bytes s key
  trace_is = go (eqb (length key) 32) refl
    where
      go : (b : Bool) → eqb (length key) 32 ≡ b → trace (state_in s) key ≡ trace_of_bytes s key
      go true e = trace_walks s key (eqb-true (length key) 32 e) long
      go false e = sym (answers.trace_bad_key (state_in s) key (eqb-false (length key) 32 e)) ∙ trace_bad_key s key (eqb-false (length key) 32 e)

  told : (a : Traced) (iv sb : List ℕ) → 16 ≤ length iv → 1 ≤ length sb → Told a iv sb (trace_answer a iv sb) (trace_iv a iv sb) (trace_sealed a iv sb)
  unfolding trace_answer trace_iv trace_sealed
  told (origin v m) iv sb h k =
      let z : 0 ≡ room 16 iv (room 1 sb 0) = fits 1 sb 0 k ∙ fits 16 iv (room 1 sb 0) h in
      (sym z, (sym (accepted z (v ++ drop 16 iv) iv), sym (accepted z (mode_byte m ∷ drop 1 sb) sb)))
  told (refused i) iv sb h k = (refl, (refl, refl))

  tells : TracesThroughC s key (trace (state_in s) key)
  tells iv sb h k =
      subst (λ (a : Traced). Told (trace (state_in s) key) iv sb (trace_answer a iv sb) (trace_iv a iv sb) (trace_sealed a iv sb)) trace_is
      (told (trace (state_in s) key) iv sb h k)

-- from the bytes of a state trace tells what it finds from the state
pub tells_state : (s : State) → SizedState s → (key : List ℕ) {a : Traced} → trace s key ≡ a → TracesThroughC (state_bytes s) key a
tells_state s g key e =
    subst (TracesThroughC (state_bytes s) key) (ap (λ (u : State). trace u key) (state_whole s g) ∙ e) (tells (state_bytes s) key (state_row s g).long)

pub traces : (state key : Bytes) → length state.list ≡ 120
    → (a : Traced) × (Traces (state_in state.list) key.list a × TracesThroughC state.list key.list a)
traces state key long = (
  trace (state_in state.list) key.list,
  (
    trace-law (state_in state.list) (listed_sized state.list (row_of state long)).registers_good key.list key.below,
    tells state.list key.list long,
  ),
)
