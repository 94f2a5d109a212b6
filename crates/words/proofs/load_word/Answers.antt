-- `words::load_word` meets its contract.
use Rattle.std.proofs.Common.{◌∙◌}
use Rattle.words.proofs.Blocks.{word_at}
use Rattle.words.proofs.load_word.Goals as goal

pub returns : goal.returns
returns c =
    let a = c.args in
    c.from_le_bytes.ensures ∙ word_at a.p.now a.at c.requires
