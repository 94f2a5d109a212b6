-- `lfsr::over` meets its contract.
use mathlib.Core.Path.{refl}
use Rattle.words.specs.Xor.{◌⊕◌}
use Rattle.lfsr.specs.Cells.{over}
use Rattle.lfsr.proofs.over.Goals as goal

pub returns : goal.returns
unfolding over ◌⊕◌
returns c = refl
