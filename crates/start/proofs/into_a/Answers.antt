-- `start::into_a` meets its contract: register A is fed, the rest stays.
use Rattle.words.specs.Machine.{bytes_of}
use Rattle.start.specs.Start.{into_a}
use Rattle.start.proofs.into_a.Goals as goal

pub returns : goal.returns
unfolding into_a
returns c =
    let a = c.args in
    λ i. record { lfsr = c.fed-m.ensures i; r1 = bytes_of a.s.r1; r2 = bytes_of a.s.r2; r3 = bytes_of a.s.r3 }
