-- `ghash::quarter` meets its contract: the shares of four bytes, summed two by two, are the share of the four.
use Rattle.ghash.proofs.Reading.{four_shares}
use Rattle.ghash.proofs.quarter.Goals as goal

pub returns : goal.returns
returns c =
    let a = c.args in
    four_shares a.x a.h _ c.xor.result c.xor-2.result c.byte.result c.byte-2.result c.byte-3.result c.byte-4.result a.k 1 c.requires.0
    c.xor.ensures c.xor-2.ensures c.xor-3.ensures c.byte.ensures c.byte-2.ensures c.byte-3.ensures c.byte-4.ensures
