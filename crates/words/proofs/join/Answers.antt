-- `words::join` meets its contract.
use Rattle.words.proofs.Bytes.{little_pair}
use Rattle.std.proofs.Common.{rules}
use Rattle.words.proofs.join.Goals as goal

pub returns : goal.returns
returns c = little_pair c.args.lo c.args.hi (search rules) (search rules)
