-- `start::start` meets its contract: it is `start_with` over a table of its own.
use Rattle.start.proofs.start.Goals as goal

pub start_with-requires : goal.start_with-requires
start_with-requires c = c.table-rounds.ensures

pub returns : goal.returns
returns c = c.start_with.ensures
