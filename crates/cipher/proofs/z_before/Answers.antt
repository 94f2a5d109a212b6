-- `cipher::z_before` meets its contract.
use mathlib.Core.Path.{ap₂, ◌∙◌}
use Rattle.words.specs.Xor.{xors}
use Rattle.words.specs.Sums.{◌⊞◌}
use Rattle.cipher.specs.Back.{back, z_before}
use Rattle.cipher.proofs.z_before.Goals as goal

pub returns : goal.returns
unfolding back z_before
returns c =
    let o2 = c.unround-o2.ensures in
    let o1 = c.unround-o1.ensures in
    record {
      r1 = o1;
      r2 = o2;
      z = c.xor-z.ensures ∙ ap₂ xors (c.plus.ensures ∙ ap₂ ◌⊞◌ o1 c.low_half.ensures) o2;
    }
