-- `session::carried` meets its contract: the block that it reads is the whole IV.
use mathlib.Core.Path.{◌∙◌}
use Rattle.start.proofs.Answers.{iv_whole}
use Rattle.session.proofs.carried.Goals as goal

pub returns : goal.returns
returns c = c.to_bytes.ensures ∙ iv_whole c.args.iv.now _ c.requires c.load.ensures
