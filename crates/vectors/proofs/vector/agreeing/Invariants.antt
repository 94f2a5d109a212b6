-- Of the first i blocks no more than i agree.
use Rattle.std.proofs.Common.{◌≤◌}
use Rattle.vectors.proofs.vector.agreeing.Given as goal

abbrev pub invariant-loop-i : goal.invariant-loop-i
invariant-loop-i g l = l.agreed ≤ l.i
