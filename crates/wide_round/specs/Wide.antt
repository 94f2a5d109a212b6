-- What the table of words holds: document 02, request S-7, "256 words of 32 bits, each an S-box byte already multiplied for its column".
use Rattle.std.specs.Prelude.{ℕ, [], ◌∷◌}
use Rattle.words.specs.Bytes.{number}
use Rattle.aes.specs.Field.{gmul, sub}

-- the S-box byte times the first column of MixColumns' matrix, which is 2, 1, 1 and 3 from the top, as a word, low byte first
unfoldable pub wide : ℕ → ℕ
wide b = number (gmul 2 (sub b) ∷ gmul 1 (sub b) ∷ gmul 1 (sub b) ∷ gmul 3 (sub b) ∷ [])
