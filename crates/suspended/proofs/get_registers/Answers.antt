-- `suspended::get_registers` meets its contract: each field is read at its place.
use Rattle.suspended.proofs.Placing.{get_registers}
use Rattle.suspended.proofs.get_registers.Goals as goal

pub returns : goal.returns
returns c =
    let s = c.args in
    get_registers s.s.now s.at c.cells-a.ensures c.cells-b.ensures c.load-r1.ensures c.load-r2.ensures c.load-r3.ensures
