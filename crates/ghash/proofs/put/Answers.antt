-- `ghash::put` meets its contract: two words are an entry.
use Rattle.ghash.proofs.Places.{entries_put}
use Rattle.ghash.proofs.put.Goals as goal

pub returns : goal.returns
returns c = entries_put c.args.table.now c.args.i c.args.e.lo c.args.e.hi
