-- `words::load` meets its contract: the four words' bytes are the sixteen of the slice.
use Rattle.std.proofs.Common.{ap, ◌∙◌}
use Rattle.words.specs.Bytes.{littles}
use Rattle.words.specs.Machine.{bytes_of}
use Rattle.words.proofs.Blocks.{four, block_at}
use Rattle.words.proofs.load.Goals as goal

pub returns : goal.returns
unfolding bytes_of
returns c =
    ap (littles 4)
    (four c.load_word.ensures c.load_word-2.ensures c.load_word-3.ensures c.load_word-4.ensures)
    ∙ block_at c.args.p.now c.args.at c.requires (λ i. (c.type_inv.p i).fits)
