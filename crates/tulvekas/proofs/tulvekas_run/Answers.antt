-- `tulvekas::tulvekas_run` meets its contract, by the state's length and the answer of the run below.
use mathlib.Core.Path.{refl, ◌∙◌}
use Prim.Native.Nat.{◌*◌}
use Rattle.std.proofs.lemmas.Result.{err_from_is_err_and}
use Rattle.scope.proofs.Refused.{refused}
use Rattle.cipher.specs.Run.{blocks}
use Rattle.cipher.specs.State.{moved}
use Rattle.cipher.proofs.Typed.{every_state}
use Rattle.bytes_c.specs.StateBytes.{state_in}
use Rattle.bytes_c.proofs.Answering.{never, unwritten}
use Rattle.tulvekas.specs.Cipher.{back_named}
use Rattle.tulvekas.proofs.Answering.{state_leaves_all, state_leaves_stored}
use Rattle.tulvekas.proofs.CipherAnswers.{whole_state, run_bad_state, run_below, run_moves, run_unwritten, run_written}
use Rattle.tulvekas.proofs.tulvekas_run.Goals as goal

pub returns-then-state-ne-STATE_BYTES : goal.returns-then-state-ne-STATE_BYTES
returns-then-state-ne-STATE_BYTES c =
    let a = c.args in
    let s = a.state.now in
    let d = back_named a.back in
    let out = a.out.now in
    let e = run_bad_state s a.n a.back out c.if-state-ne-STATE_BYTES.true in
    record { answer = e; state = state_leaves_all e (moved d a.n (state_in s)) s (never 7); out = unwritten e (16 * a.n) (blocks d a.n (state_in s).registers) out (never 7) }

pub returns-in_err-u : goal.returns-in_err-u
returns-in_err-u c =
    let a = c.args in
    let s = a.state.now in
    let out = a.out.now in
    let f = c.in_err-u.ensures in
    let l = c.get_state-s.ensures ∙ whole_state s c.if-state-ne-STATE_BYTES.false in
    let p = err_from_is_err_and c.from_residual.result c.from_residual.ensures.1 in
    let h = refused c.in_err-u.field-0.0 in
    let e = run_below s a.n a.back out c.if-state-ne-STATE_BYTES.false l f.answer in
    record {
      answer = rw (p.1, p.2) e;
      state = state_leaves_all e (moved (back_named a.back) a.n (state_in s)) s h;
      out = f.out ∙ run_unwritten s a.n a.back out c.if-state-ne-STATE_BYTES.false l f.answer refl h;
    }

pub returns : goal.returns
returns c =
    let a = c.args in
    let s = a.state.now in
    let out = a.out.now in
    let f = c.in_ok-u.ensures in
    let l = c.get_state-s.ensures ∙ whole_state s c.if-state-ne-STATE_BYTES.false in
    let e = run_below s a.n a.back out c.if-state-ne-STATE_BYTES.false l f.answer in
    let m = f.state ∙ run_moves s a.n a.back out c.if-state-ne-STATE_BYTES.false l f.answer refl in
    let good = every_state c.get_state-s.result _ c.get_state-s.type_inv in
    record {
      answer = e;
      state = state_leaves_stored e _ (moved (back_named a.back) a.n (state_in s)) s _ m c.store_state.ensures;
      out = f.out ∙ run_written s a.n a.back out c.if-state-ne-STATE_BYTES.false l f.answer refl refl good;
    }
