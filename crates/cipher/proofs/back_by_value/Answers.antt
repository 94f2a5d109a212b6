-- `cipher::back_by_value` meets its contract: where the count refuses nothing, it is `backward` over a table of its own.
use mathlib.Core.Path.{sym, ap, ◌∙◌}
use Rattle.std.proofs.lemmas.Result.{err_from_is_err_and}
use Rattle.cipher.specs.Run.{forward, backward}
use Rattle.cipher.specs.State.{Drawn.block, step_state, step_answer}
use Rattle.cipher.specs.Machine.{state_of}
use Rattle.cipher.proofs.Typed.{every_state}
use Rattle.cipher.proofs.Stepping.{step_refused, step_accepted, moved_one}
use Rattle.cipher.proofs.CountedSteps.{leads_state, leads_block}
use Rattle.cipher.proofs.back_by_value.Goals as goal

pub returns-in_err-steps_allowed : goal.returns-in_err-steps_allowed
returns-in_err-steps_allowed c =
    let p = err_from_is_err_and c.from_residual.result c.from_residual.ensures.1 in
    let n = c.in_err-steps_allowed.ensures in
    rw (p.1, p.2) (record { back = step_refused backward c.args.s c.in_err-steps_allowed.field-0.0 n; leads = n })

pub returns : goal.returns
returns c =
    let s = state_of c.args.s in
    let n = c.in_ok-steps_allowed.ensures in
    let g = every_state c.args.s _ c.well_formed.0 in
    let m = c.backward-w.ensures in
    let e = moved_one backward s _ m.registers c.counted.ensures in record {
      back = step_accepted backward c.args.s _ n e m.z;
      leads = (n, (ap (step_state forward) e ∙ leads_state s g (sym n), ap (step_answer forward) e ∙ leads_block s g (sym n) ∙ ap block (sym m.z)));
    }
