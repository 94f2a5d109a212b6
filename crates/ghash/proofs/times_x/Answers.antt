-- `ghash::times_x` meets its contract: the bit that leaves the high half enters the low one, and the one that leaves the low half brings R.
use native.Mathlib.Omega.{arith}
use Rattle.words.specs.Xor.{◌⊕◌}
use Rattle.ghash.proofs.Elements.{times_x_halves}
use Rattle.ghash.proofs.times_x.Goals as goal

pub returns : goal.returns
unfolding ◌⊕◌
returns c = let v = c.args.v in times_x_halves v.hi v.lo (omega arith)
