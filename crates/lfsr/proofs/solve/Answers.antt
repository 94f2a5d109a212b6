-- `lfsr::solve` meets its contract.
use mathlib.Core.Path.{refl}
use Rattle.words.specs.Xor.{◌⊕◌}
use Rattle.lfsr.specs.Unclock.{solve, spread, shl}
use Rattle.lfsr.proofs.solve.Goals as goal

pub returns : goal.returns
unfolding solve spread shl ◌⊕◌
returns c = refl
