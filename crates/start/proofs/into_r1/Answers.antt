-- `start::into_r1` meets its contract.
use Rattle.words.specs.Machine.{bytes_of}
use Rattle.lfsr.specs.Machine.{lfsr_of}
use Rattle.start.specs.Start.{into_r1}
use Rattle.start.proofs.into_r1.Goals as goal

pub returns : goal.returns
unfolding into_r1
returns c =
    let s = c.args.s in
    λ i. record { lfsr = lfsr_of s.lfsr; r1 = c.xor-n.ensures i; r2 = bytes_of s.r2; r3 = bytes_of s.r3 }
