-- `tulvekas::tulvekas_begin` meets its contract, by the three lengths and the answer of the call below.
use mathlib.Core.Path.{refl}
use Rattle.std.proofs.lemmas.Result.{err_from_is_err_and}
use Rattle.scope.proofs.Refused.{refused}
use Rattle.session.specs.Calls.{begin_call}
use Rattle.bytes_c.proofs.Answering.{never}
use Rattle.tulvekas.proofs.Answering.{leaves_all, leaves_stored}
use Rattle.tulvekas.proofs.SessionAnswers.{begin_refused, begin_short, begin_right}
use Rattle.tulvekas.proofs.tulvekas_begin.Goals as goal

pub returns-in_err-lengths : goal.returns-in_err-lengths
returns-in_err-lengths c =
    let a = c.args in
    let p = err_from_is_err_and c.from_residual.result c.from_residual.ensures.1 in
    let h = refused c.in_err-lengths.field-0.0 in
    let e = begin_refused a.key.now a.iv.now a.session.now c.in_err-lengths.ensures h in
    record { answer = rw (p.1, p.2) e; session = leaves_all e (begin_call a.key.now a.iv.now).session a.session.now h }

pub returns-in_err-s : goal.returns-in_err-s
unfolding begin_call
returns-in_err-s c =
    let a = c.args in
    let p = err_from_is_err_and c.from_residual-in_err-s.result c.from_residual-in_err-s.ensures.1 in
    let h = refused c.in_err-s.field-0.0 in
    let e = begin_refused a.key.now a.iv.now a.session.now c.in_err-s.ensures h in
    record { answer = rw (p.1, p.2) e; session = leaves_all e (begin_call a.key.now a.iv.now).session a.session.now h }

pub returns-then-session-lt-SESSION_BYTES : goal.returns-then-session-lt-SESSION_BYTES
returns-then-session-lt-SESSION_BYTES c =
    let a = c.args in
    let e = begin_short a.key.now a.iv.now a.session.now c.in_ok-lengths.ensures refl c.if-session-lt-SESSION_BYTES.true in
    record { answer = e; session = leaves_all e (begin_call a.key.now a.iv.now).session a.session.now (never 3) }

pub returns : goal.returns
unfolding begin_call
returns c =
    let a = c.args in
    let e = begin_right a.key.now a.iv.now a.session.now c.in_ok-s.ensures.0 refl c.if-session-lt-SESSION_BYTES.false in
    record { answer = e; session = leaves_stored e _ (begin_call a.key.now a.iv.now).session a.session.now _ c.in_ok-s.ensures.1 c.store_session.ensures }
