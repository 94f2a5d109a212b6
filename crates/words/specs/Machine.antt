-- How the code holds a block: four words of 32 bits, the lowest first. Definitions speak of the 16 bytes, and contracts of `bytes_of`.
use Rattle.std.specs.Prelude.{ℕ, List, [], ◌∷◌}
use Rattle.words.specs.Bytes.{littles}
use Rattle.words.specs.declared.Block.{Block}

abbrev pub words_of : Block → List ℕ
words_of x = x.w0 ∷ x.w1 ∷ x.w2 ∷ x.w3 ∷ []

-- the block's 16 bytes
unfoldable pub bytes_of : Block → List ℕ
bytes_of x = littles 4 (words_of x)
