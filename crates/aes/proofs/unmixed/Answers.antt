-- `aes::unmixed` meets its contract: unmixing is mixing after a + 4(a + c) in each byte.
use Rattle.words.specs.Xor.{◌⊕◌}
use Rattle.aes.proofs.Columns.{is_unmixed}
use Rattle.aes.proofs.unmixed.Goals as goal

pub returns : goal.returns
unfolding ◌⊕◌
returns c =
    is_unmixed _ _ _ _ _ _ c.turn.ensures c.turn-c.ensures
    c.times_x4.ensures c.times_x4-2.ensures c.mixed.ensures
