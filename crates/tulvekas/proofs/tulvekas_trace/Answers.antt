-- `tulvekas::tulvekas_trace` meets its contract, by the lengths and the answer of the trace.
use mathlib.Core.Path.{◌≡◌, sym, ap, ◌∙◌}
use mathlib.Core.List.{List, ◌++◌}
use Prim.Native.Nat.{ℕ}
use lib.ListN.{length, set, drop}
use Rattle.std.proofs.lemmas.Result.{err_from_is_err_and}
use Rattle.scope.specs.Machine.{refusal_number}
use Rattle.words.specs.Bytes.{part}
use Rattle.bytes_c.specs.StateBytes.{state_in}
use Rattle.cipher.specs.State.{State}
use Rattle.start.specs.Trace.{trace}
use Rattle.start.specs.Machine.{mode_of}
use Rattle.bytes_c.specs.Modes.{mode_byte}
use Rattle.tulvekas.specs.Cipher.{trace_of_bytes}
use Rattle.tulvekas.proofs.Answering.{set_first}
use Rattle.tulvekas.proofs.CipherAnswers.{whole_state, trace_bad_key, trace_bad_state, trace_walks, told_refused, told_short_iv, told_short_sealed, told_found}
use Rattle.tulvekas.proofs.tulvekas_trace.Goals as goal

-- the answer of the trace, of the state that the bytes list
module _ (s key : List ℕ) (n : length s ≡ 120) (k : length key ≡ 32) {u : State} (eu : u ≡ state_in (part 0 120 s)) where
  walked : trace u key ≡ trace_of_bytes s key
  walked = ap (λ (t : State). trace t key) (eu ∙ whole_state s n) ∙ trace_walks s key k n

pub returns-then-key-ne-KEY_BYTES : goal.returns-then-key-ne-KEY_BYTES
returns-then-key-ne-KEY_BYTES c =
    let a = c.args in
    let p = told_refused a.iv.now a.sealed.now 1 (sym (trace_bad_key a.state.now a.key.now c.if-key-ne-KEY_BYTES.true)) in
    record { answer = p.0; iv = p.1.0; sealed = p.1.1 }

pub returns-then-state-ne-STATE_BYTES : goal.returns-then-state-ne-STATE_BYTES
returns-then-state-ne-STATE_BYTES c =
    let a = c.args in
    let p = told_refused a.iv.now a.sealed.now 8
    (sym (trace_bad_state a.state.now a.key.now c.if-key-ne-KEY_BYTES.false c.if-state-ne-STATE_BYTES.true)) in
    record { answer = p.0; iv = p.1.0; sealed = p.1.1 }

pub returns-in_err-o : goal.returns-in_err-o
returns-in_err-o c =
    let a = c.args in
    let p = err_from_is_err_and c.from_residual.result c.from_residual.ensures.1 in
    let w = walked a.state.now a.key.now c.if-state-ne-STATE_BYTES.false c.if-key-ne-KEY_BYTES.false c.get_state.ensures in
    let q = told_refused a.iv.now a.sealed.now (refusal_number c.in_err-o.field-0.0) (sym w ∙ sym c.in_err-o.ensures.walk) in
    record { answer = rw (p.1, p.2) q.0; iv = q.1.0; sealed = q.1.1 }

pub returns-then-iv-lt-IV_BYTES : goal.returns-then-iv-lt-IV_BYTES
returns-then-iv-lt-IV_BYTES c =
    let a = c.args in
    let w = walked a.state.now a.key.now c.if-state-ne-STATE_BYTES.false c.if-key-ne-KEY_BYTES.false c.get_state.ensures in
    let p = told_short_iv a.iv.now a.sealed.now _ _ (sym w ∙ sym c.in_ok-o.ensures.walk) c.if-iv-lt-IV_BYTES.true in
    record { answer = p.0; iv = p.1.0; sealed = p.1.1 }

pub returns-then-sealed-lt1 : goal.returns-then-sealed-lt1
returns-then-sealed-lt1 c =
    let a = c.args in
    let w = walked a.state.now a.key.now c.if-state-ne-STATE_BYTES.false c.if-key-ne-KEY_BYTES.false c.get_state.ensures in
    let p = told_short_sealed a.iv.now a.sealed.now _ _ (sym w ∙ sym c.in_ok-o.ensures.walk) c.if-iv-lt-IV_BYTES.false c.if-sealed-lt1.true in
    record { answer = p.0; iv = p.1.0; sealed = p.1.1 }

pub returns : goal.returns
returns c =
    let a = c.args in
    let w = walked a.state.now a.key.now c.if-state-ne-STATE_BYTES.false c.if-key-ne-KEY_BYTES.false c.get_state.ensures in
    let b = mode_byte (mode_of c.in_ok-o.o.mode) in
    let p = told_found a.iv.now a.sealed.now _ _ (sym w ∙ sym c.in_ok-o.ensures.walk) c.if-iv-lt-IV_BYTES.false c.if-sealed-lt1.false
    (c.put_block.ensures ∙ ap (λ (l : List ℕ). l ++ drop 16 a.iv.now) c.iv_bytes-v.ensures)
    (ap (set a.sealed.now 0) c.mode_number.ensures ∙ set_first a.sealed.now b c.if-sealed-lt1.false) in
    record { answer = p.0; iv = p.1.0; sealed = p.1.1 }
