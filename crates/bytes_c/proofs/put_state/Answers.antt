-- `bytes_c::put_state` meets its contract: the count is written behind the registers.
use Rattle.cipher.specs.Machine.{state_of}
use Rattle.bytes_c.proofs.Sizes.{every_sized}
use Rattle.bytes_c.proofs.StateLaws.{put_state}
use Rattle.bytes_c.proofs.put_state.Goals as goal

pub returns : goal.returns
returns c =
    let a = c.args in
    put_state (state_of a.s) (every_sized a.s _ c.well_formed.1.1.0) a.out.now a.at c.put_registers.ensures c.put.ensures
