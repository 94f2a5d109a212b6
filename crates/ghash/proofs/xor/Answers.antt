-- `ghash::xor` meets its contract: xor goes by halves.
use Rattle.words.specs.Xor.{◌⊕◌}
use Rattle.ghash.proofs.Elements.{xor_halves}
use Rattle.ghash.proofs.xor.Goals as goal

pub returns : goal.returns
unfolding ◌⊕◌
returns c = let s = c.args in xor_halves s.a.lo s.a.hi s.b.lo s.b.hi
