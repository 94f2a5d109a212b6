-- The ⊞32 of the SNOW-V paper, section 2: the four 32-bit words of two blocks are added modulo 2^32, and no carry goes from a word to the
-- next.
use Rattle.std.specs.Prelude.{ℕ, ◌+◌, ◌%◌, ◌^◌, List}
use Rattle.words.specs.Xor.{pointwise}
use Rattle.words.specs.Bytes.{littles, numbers}

-- the sum of two words, modulo 2^32
abbrev pub add32 : ℕ → ℕ → ℕ
add32 x y = (x + y) % 2 ^ 32

-- two blocks word by word
abbrev pub wordwise : (ℕ → ℕ → ℕ) → List ℕ → List ℕ → List ℕ
wordwise f x y = littles 4 (pointwise f (numbers 4 4 x) (numbers 4 4 y))

infixl 60 ◌⊞◌
unfoldable pub ◌⊞◌ : List ℕ → List ℕ → List ℕ
x ⊞ y = wordwise add32 x y
