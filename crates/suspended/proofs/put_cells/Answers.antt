-- `suspended::put_cells` meets its contract: the bytes of a register are those of its halves.
use Rattle.suspended.proofs.Placing.{put_halves}
use Rattle.suspended.proofs.put_cells.Goals as goal

pub returns : goal.returns
returns c =
    let a = c.args in
    put_halves a.l _ _ a.out.now a.at c.low_half.ensures c.high_half.ensures c.store.ensures c.store-2.ensures
