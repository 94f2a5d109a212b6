-- `cipher::step_by_value` meets its contract: where the count refuses nothing, it is one step of a lane over a table of its own.
use Rattle.std.proofs.lemmas.Result.{err_from_is_err_and}
use Rattle.cipher.specs.Run.{forward}
use Rattle.cipher.specs.Machine.{state_of}
use Rattle.cipher.proofs.Stepping.{step_refused, step_accepted, moved_one}
use Rattle.cipher.proofs.step_by_value.Goals as goal

pub returns-in_err-steps_allowed : goal.returns-in_err-steps_allowed
returns-in_err-steps_allowed c =
    let p = err_from_is_err_and c.from_residual.result c.from_residual.ensures.1 in
    rw (p.1, p.2) (step_refused forward c.args.s c.in_err-steps_allowed.field-0.0 c.in_err-steps_allowed.ensures)

pub returns : goal.returns
returns c =
    let m = c.forward-w.ensures in
    step_accepted forward c.args.s _ c.in_ok-steps_allowed.ensures (moved_one forward (state_of c.args.s) _ m.registers c.counted.ensures) m.z
