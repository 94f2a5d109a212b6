-- `scheduler::iv_at` meets its contract: it is read where the place has it.
use mathlib.Core.Path.{◌∙◌}
use Rattle.scheduler.proofs.Reading.{at_iv}
use Rattle.scheduler.proofs.iv_at.Goals as goal

pub returns : goal.returns
returns c = let a = c.args in c.load.ensures ∙ at_iv a.s.now a.i
