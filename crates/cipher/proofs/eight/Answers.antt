-- `cipher::eight` meets its contract: each pair of cells is a word of the block.
use Rattle.words.specs.Machine.{bytes_of}
use Rattle.cipher.proofs.Halves.{half_bytes}
use Rattle.cipher.proofs.eight.Goals as goal

pub returns : goal.returns
unfolding bytes_of
returns c =
    half_bytes _ _ _ _ _ _ _ _ _ _ _ _ c.pair.ensures c.pair-2.ensures c.pair-3.ensures
    c.pair-4.ensures
