-- `aes::mixed` meets its contract: in each byte, 2a + 3b + c + d is 2(a + b) + b + (c + d).
use Rattle.words.specs.Xor.{◌⊕◌}
use Rattle.aes.proofs.Columns.{is_mixed}
use Rattle.aes.proofs.mixed.Goals as goal

pub returns : goal.returns
unfolding ◌⊕◌
returns c =
    is_mixed _ _ _ _ _ c.turn-b.ensures c.times_x4.ensures c.turn.ensures c.turn-2.ensures
