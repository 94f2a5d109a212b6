-- `cipher::registers_before` meets its contract: each part of the code is the definition's.
use mathlib.Core.Path.{ap, ap₂, ◌∙◌}
use lib.ListN.{take}
use Rattle.words.specs.Xor.{xors}
use Rattle.words.specs.Bytes.{littles}
use Rattle.words.specs.Differences.{◌⊟◌}
use Rattle.lfsr.specs.Clock.{Lfsr}
use Rattle.cipher.specs.Back.{back}
use Rattle.cipher.proofs.registers_before.Goals as goal

pub returns : goal.returns
unfolding back
returns c =
    let p = c.requires in
    let o = c.unclock8-o.ensures in
    λ i. record {
      lfsr = o i;
      r1 = p.r1 i;
      r2 = p.r2 i;
      r3 = (c.xor-o3.ensures
          ∙ ap₂ xors (c.minus.ensures ∙ ap₂ ◌⊟◌ c.sigma.ensures p.r2) (c.low_half.ensures ∙ ap (λ (l : Lfsr). littles 2 (take 8 l.a)) o)) i;
    }
