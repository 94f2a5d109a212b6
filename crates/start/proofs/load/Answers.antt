-- `start::load` meets its contract.
use Rattle.start.proofs.Splitting.{is_load}
use Rattle.start.specs.Machine.{mode_of}
use Rattle.start.proofs.load.Goals as goal

pub returns : goal.returns
returns c =
    let a = c.args in
    let z = c.zero-zero.ensures in
    is_load a.low a.high a.iv _ (mode_of a.mode) _ _ _ _ _ c.mode_block.ensures c.cells-a.ensures
    c.cells-b.ensures z z z
