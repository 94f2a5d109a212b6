-- `pass::under_keystream` meets its contract: after i turns i blocks are written.
use Rattle.pass.proofs.Masking.{Under}
use Rattle.pass.proofs.under_keystream.Given as goal

abbrev pub invariant-loop-i : goal.invariant-loop-i
invariant-loop-i l = Under l.input l.stream l.initial.out l.from l.n l.i l.out
