-- After i steps no more than i blocks agree.
use Rattle.std.proofs.Common.{◌≤◌}
use Rattle.vectors.proofs.far_end.single_steps.Given as goal

abbrev pub invariant-loop-i : goal.invariant-loop-i
invariant-loop-i g l = l.agreed ≤ l.i
