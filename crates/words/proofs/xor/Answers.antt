-- `words::xor` meets its contract: xor goes through the bytes of each word.
use Rattle.std.proofs.Common.{refl}
use Rattle.words.specs.Xor.{◌⊕◌, xors}
use Rattle.words.specs.Machine.{words_of, bytes_of}
use Rattle.words.proofs.Bytes.{littles_xor}
use Rattle.words.proofs.xor.Goals as goal

pub returns : goal.returns
unfolding bytes_of xors ◌⊕◌
returns c =
    let a = c.args in
    littles_xor 4 (words_of a.x) (words_of a.y) refl
