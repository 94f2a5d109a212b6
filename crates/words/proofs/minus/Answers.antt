-- `words::minus` meets its contract: each word is the definition's.
use Rattle.std.proofs.Common.{refl, rules}
use Rattle.words.specs.Differences.{sub32, ◌⊟◌}
use Rattle.words.proofs.Blocks.{is_wordwise}
use Rattle.words.proofs.minus.Goals as goal

pub returns : goal.returns
unfolding ◌⊟◌
returns c =
    let s = c.args in
    is_wordwise sub32 s.x s.y _ (search rules)
    (search rules)
    refl
