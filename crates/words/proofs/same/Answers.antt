-- `words::same` meets its contract: blocks are the same where their words are.
use Rattle.std.proofs.Common.{rules}
use Rattle.words.proofs.Blocks.{same_words}
use Rattle.words.proofs.same.Goals as goal

pub returns : goal.returns
returns c =
    let a = c.args in
    same_words a.x a.y (search rules)
    (search rules)
