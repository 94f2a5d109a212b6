-- `scheduler::left_at` meets its contract: it is read where the place has it.
use mathlib.Core.Path.{◌∙◌}
use Rattle.scheduler.proofs.Reading.{at_left}
use Rattle.scheduler.proofs.left_at.Goals as goal

pub returns : goal.returns
returns c = let a = c.args in c.get.ensures.0 ∙ at_left a.s.now a.i
