-- `cipher::run_core` meets its contract: the count's refusals, the output's, else the steps.
use mathlib.Core.Path.{sym}
use native.Mathlib.Omega.{arith}
use Rattle.std.proofs.lemmas.Result.{err_from_is_err_and}
use Rattle.cipher.proofs.Typed.{every_state}
use Rattle.cipher.proofs.Counting.{run_fits}
use Rattle.cipher.proofs.Running.{not_counted, no_room, accepted}
use Rattle.cipher.proofs.run_core.Goals as goal

pub returns-in_err-steps_allowed : goal.returns-in_err-steps_allowed
returns-in_err-steps_allowed c =
    let a = c.args in
    let p = err_from_is_err_and c.from_residual.result c.from_residual.ensures.1 in
    let r = not_counted a.back a.s a.out.now a.n c.in_err-steps_allowed.field-0.0 c.in_err-steps_allowed.ensures in
    rw (p.1, p.2) (record { answer = r.answer; state = r.state; wrote = r.wrote; out = r.written })

pub overflow_mul-n : goal.overflow_mul-n
overflow_mul-n c =
    let a = c.args in
    let h = run_fits a.back a.n a.s.count (sym c.in_ok-steps_allowed.ensures) in
    record { fits = omega (arith, h) }

pub returns-then-out-n : goal.returns-then-out-n
returns-then-out-n c =
    let a = c.args in
    let r = no_room a.back a.s a.out.now a.n c.in_ok-steps_allowed.ensures c.if-out-n.true in
    record { answer = r.answer; state = r.state; wrote = r.wrote; out = r.written }

pub returns : goal.returns
returns c =
    let a = c.args in
    let r = accepted a.back a.s a.out.now a.n (every_state a.s _ c.well_formed.0) c.in_ok-steps_allowed.ensures c.if-out-n.false _ _
    (λ i. record { registers = c.steps.ensures.registers i; count = c.counted.ensures i }) c.steps.ensures.out in
    record { answer = r.answer; state = r.state; wrote = r.wrote; out = r.written }
