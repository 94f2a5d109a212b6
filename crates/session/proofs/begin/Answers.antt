-- `session::begin` meets its contract: it is `lent::begin_with` over a table of its own.
use Rattle.session.proofs.begin.Goals as goal

pub returns : goal.returns
returns c = c.begin_with.ensures

pub begin_with-requires : goal.begin_with-requires
begin_with-requires c = c.table-rounds.ensures
