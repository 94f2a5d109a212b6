-- `lfsr::fresh` meets its contract, by those of the two functions that it calls.
use Rattle.words.specs.Xor.{◌⊕◌}
use Rattle.lfsr.proofs.fresh.Goals as goal

pub returns : goal.returns
unfolding ◌⊕◌
returns c = cc
