-- `words::store_word` meets its contract: the part that is written over holds the word's bytes.
use Rattle.std.proofs.Common.{◌+◌, ◌-◌, ◌∙◌, arith}
use Rattle.words.proofs.Bytes.{little_of_word, little_long}
use Rattle.words.proofs.Writing.{put_part}
use Rattle.words.proofs.store_word.Goals as goal

pub returns : goal.returns
returns c =
    let a = c.args in
    put_part a.out.now a.at (a.at + 4 - a.at) (c.copy_from_slice.ensures.after ∙ c.to_le_bytes.ensures ∙ little_of_word a.x)
    (omega (arith, little_long 4 a.x)) (omega arith)
