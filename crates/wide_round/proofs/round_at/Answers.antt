-- `wide_round::round_at` meets its contract: each of the four columns is the round's.
use Rattle.wide_round.proofs.Columns.{is_round}
use Rattle.wide_round.proofs.round_at.Goals as goal

pub returns : goal.returns
returns c =
    is_round c.args.x.now c.args.at c.requires.0 _ c.column.ensures c.column-2.ensures c.column-3.ensures c.column-4.ensures
