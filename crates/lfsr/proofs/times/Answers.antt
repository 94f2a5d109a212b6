-- `lfsr::times` meets its contract.
use mathlib.Core.Path.{refl}
use Rattle.words.specs.Xor.{◌⊕◌}
use Rattle.lfsr.specs.Cells.{times}
use Rattle.lfsr.proofs.times.Goals as goal

pub returns : goal.returns
unfolding times ◌⊕◌
returns c = refl
