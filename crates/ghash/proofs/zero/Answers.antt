-- `ghash::zero` meets its contract.
use Rattle.ghash.proofs.Elements.{zero_bytes}
use Rattle.ghash.proofs.zero.Goals as goal

pub returns : goal.returns
returns c = zero_bytes
