-- `bytes_c::get_state` meets its contract: registers and count are read at their places.
use Rattle.bytes_c.proofs.StateLaws.{get_state}
use Rattle.bytes_c.proofs.get_state.Goals as goal

pub returns : goal.returns
returns c =
    let a = c.args in
    get_state a.b.now a.at c.get_registers-registers.ensures c.get-count.ensures.0
