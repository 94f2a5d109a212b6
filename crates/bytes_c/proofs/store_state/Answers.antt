-- `bytes_c::store_state` meets its contract: the bytes at the front list the state, which has its sizes by its type.
use Rattle.cipher.specs.Machine.{state_of}
use Rattle.bytes_c.proofs.Sizes.{every_sized}
use Rattle.bytes_c.proofs.StateLaws.{state_stored}
use Rattle.bytes_c.proofs.store_state.Goals as goal

pub returns : goal.returns
returns c =
    state_stored (state_of c.args.s) (every_sized c.args.s _ c.well_formed.1.0) c.args.out.now c.requires c.put_state.ensures
