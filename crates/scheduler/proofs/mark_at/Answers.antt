-- `scheduler::mark_at` meets its contract: it is read where the place has it.
use mathlib.Core.Path.{◌∙◌}
use Rattle.scheduler.proofs.Reading.{at_mark}
use Rattle.scheduler.proofs.mark_at.Goals as goal

pub returns : goal.returns
returns c = let a = c.args in c.get.ensures.0 ∙ at_mark a.s.now a.i
