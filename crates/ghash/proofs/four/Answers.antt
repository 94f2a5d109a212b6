-- `ghash::four` meets its contract: four stores one behind the other.
use Rattle.ghash.specs.Hash.{big}
use Rattle.ghash.specs.Machine.{bytes_of_element}
use Rattle.ghash.specs.Inner.{entries}
use Rattle.ghash.proofs.Elements.{big_sum}
use Rattle.ghash.proofs.Places.{four_stores}
use Rattle.ghash.proofs.four.Goals as goal

pub returns : goal.returns
returns c =
    let s = c.args in
    four_stores (entries s.table.now) _ _ _ _ s.i (big (bytes_of_element s.w)) c.put.ensures c.put-2.ensures c.put-3.ensures c.put-4.ensures
    (big_sum _ s.w s.a c.xor.ensures) (big_sum _ s.w s.b c.xor-2.ensures)
    (big_sum _ s.w s.ab c.xor-3.ensures)
