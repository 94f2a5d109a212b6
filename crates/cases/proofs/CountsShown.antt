-- The cases of the counts compute, whatever the registers are.
use mathlib.Core.Path.{refl}
use Rattle.cipher.specs.Run.{move, made, moves, zs, blocks}
use Rattle.cipher.specs.State.{steps_number, step_state, step_answer, run_number, run_state, run_part}
use Rattle.start.specs.Trace.{trace}
use Rattle.cases.specs.Counts.{Counts}

pub counts_shown : Counts
unfolding steps_number step_state step_answer run_number run_state run_part moves move made blocks zs trace
counts_shown = record {
  from_0 = λ _ _ _. refl;
  to_1 = λ _. (refl, refl);
  to_65538 = λ _. (refl, refl);
  to_65537 = λ _. (refl, refl);
  to_0 = λ _. (refl, refl);
  back_at_0 = λ _. (refl, refl);
  forward_at_65538 = λ _. (refl, refl);
  run_past_65538 = λ _. (refl, (refl, refl));
  run_past_0 = λ _. (refl, (refl, refl));
  run_to_65538 = (refl, refl);
  run_to_0 = (refl, refl);
  first_9_then_15 = (refl, refl);
  first_9_then_4 = (refl, refl);
  first_15_then_4 = refl;
  only_4 = (refl, refl);
  none_at_0 = λ _. ((refl, (refl, refl)), (refl, (refl, refl)));
  none_at_65538 = λ _. ((refl, (refl, refl)), (refl, (refl, refl)));
  over_65538 = λ _. record { steps = λ _. (refl, refl); runs = λ _ _ _. (refl, (refl, refl)); traces = refl };
  greatest = λ _. record { steps = λ _. (refl, refl); runs = λ _ _ _. (refl, (refl, refl)); traces = refl };
  trace_first_1 = λ _. refl;
}
