-- `suspended::read` meets its contract: each field is read at its place.
use lib.ListN.{get_or}
use Rattle.layout.specs.Block.{read}
use Rattle.suspended.proofs.read.Goals as goal

pub returns : goal.returns
unfolding read
returns c =
    let b = c.args.block.now in
    λ i. record {
      phase = get_or b 0 0;
      ad = c.get-ad.ensures.0 i;
      text = c.get-text.ensures.0 i;
      registers = c.get_registers-registers.ensures i;
      sum = record { hash = c.get_held-held.ensures.0 i; pending = c.get_held-held.ensures.1 i };
    }
