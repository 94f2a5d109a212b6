-- `ghash::twice_low` meets its contract: the mask keeps to the bytes, and twice four bits stay in theirs.
use Rattle.ghash.proofs.Reading.{masked}
use Rattle.ghash.proofs.twice_low.Goals as goal

pub returns : goal.returns
returns c = masked 8 c.args.x
