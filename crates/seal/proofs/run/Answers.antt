-- What was read has the output of the whole input.
use Rattle.std.proofs.Common.{rules}
use Rattle.seal.proofs.Answered.{whole}
use Rattle.seal.proofs.run.Goals as goal

pub returns : goal.returns
returns g c =
    whole _ _ _ _ _ _ _ _ _ (search rules) c.in-Ok.ensures.took c.answer-k.ensures c.in_ok-write_all-2.ensures.bytes
