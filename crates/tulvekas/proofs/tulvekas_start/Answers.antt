-- `tulvekas::tulvekas_start` meets its contract, by the three lengths and the answer of the start.
use mathlib.Core.Path.{refl, ap, ◌∙◌}
use Rattle.std.proofs.lemmas.Result.{err_from_is_err_and}
use Rattle.scope.proofs.Refused.{refused}
use Rattle.start.specs.Start.{started}
use Rattle.bytes_c.specs.Modes.{mode_named}
use Rattle.bytes_c.proofs.Answering.{never}
use Rattle.tulvekas.proofs.Answering.{state_leaves_all, state_leaves_stored}
use Rattle.tulvekas.proofs.CipherAnswers.{start_refused, start_short, start_right}
use Rattle.tulvekas.proofs.tulvekas_start.Goals as goal

pub returns-in_err-lengths : goal.returns-in_err-lengths
returns-in_err-lengths c =
    let a = c.args in
    let p = err_from_is_err_and c.from_residual.result c.from_residual.ensures.1 in
    let h = refused c.in_err-lengths.field-0.0 in
    let e = start_refused a.key.now a.iv.now a.state.now c.in_err-lengths.ensures h in
    record { answer = rw (p.1, p.2) e; state = state_leaves_all e (started a.key.now a.iv.now (mode_named a.sealed)) a.state.now h }

pub returns-in_err-s : goal.returns-in_err-s
returns-in_err-s c =
    let a = c.args in
    let p = err_from_is_err_and c.from_residual-in_err-s.result c.from_residual-in_err-s.ensures.1 in
    let h = refused c.in_err-s.field-0.0 in
    let e = start_refused a.key.now a.iv.now a.state.now c.in_err-s.ensures h in
    record { answer = rw (p.1, p.2) e; state = state_leaves_all e (started a.key.now a.iv.now (mode_named a.sealed)) a.state.now h }

pub returns-then-state-lt-STATE_BYTES : goal.returns-then-state-lt-STATE_BYTES
returns-then-state-lt-STATE_BYTES c =
    let a = c.args in
    let e = start_short a.key.now a.iv.now a.state.now c.in_ok-lengths.ensures refl c.if-state-lt-STATE_BYTES.true in
    record { answer = e; state = state_leaves_all e (started a.key.now a.iv.now (mode_named a.sealed)) a.state.now (never 3) }

pub returns : goal.returns
returns c =
    let a = c.args in
    let e = start_right a.key.now a.iv.now a.state.now c.in_ok-s.ensures.0 refl c.if-state-lt-STATE_BYTES.false in
    let s = c.in_ok-s.ensures.1 ∙ ap (started a.key.now a.iv.now) c.mode_named.ensures in
    record { answer = e; state = state_leaves_stored e _ (started a.key.now a.iv.now (mode_named a.sealed)) a.state.now _ s c.store_state.ensures }
