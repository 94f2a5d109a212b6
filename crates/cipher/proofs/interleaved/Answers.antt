-- `cipher::interleaved` meets its contract.
use Rattle.cipher.proofs.Halves.{interleave}
use Rattle.cipher.proofs.interleaved.Goals as goal

pub returns : goal.returns
returns c = interleave c.args.p c.args.q
