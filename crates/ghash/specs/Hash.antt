-- GHASH of a string of bytes, NIST SP 800-38D, section 6.4: Algorithm 2. A block is 16 bytes here, and byte 0 is its leftmost, as document 01,
-- "Tag arithmetic", has it. Strings that are no whole number of blocks are left out: whoever hashes pads first (`padded`).
use Rattle.std.specs.Prelude.{ℕ, zero, suc, ◌+◌, ◌-◌, ◌*◌, ◌/◌, ◌%◌, ◌^◌, List, [], ◌∷◌, ◌++◌, length, take, drop, replicate}
use Rattle.words.specs.Xor.{xors}
use Rattle.words.specs.Bytes.{zeros}
use Rattle.ghash.specs.Field.{product}

-- the number that bytes spell, high byte first
unfoldable pub big : List ℕ → ℕ
big [] = 0
big (b ∷ s) = b * 256 ^ length s + big s

-- the k low bytes of n, high byte first
unfoldable pub bigs : ℕ → ℕ → List ℕ
bigs zero n = []
bigs (suc k) n = n / 256 ^ k % 256 ∷ bigs k n

-- the last block of what is hashed for a tag: the lengths in bytes of data and text, each in bits, 64 bits, high byte first (section 7.1,
-- step 5)
abbrev pub lengths : (ad text : ℕ) → List ℕ
lengths d t = bigs 8 (d * 8) ++ bigs 8 (t * 8)

-- X • Y of blocks as bytes
infixl 70 ◌•◌
unfoldable pub ◌•◌ : List ℕ → List ℕ → List ℕ
x • y = bigs 16 (product (big x) (big y))

-- Y(i) from Y(i-1), with the block X: (Y ⊕ X) • H
unfoldable pub eat : (h y x : List ℕ) → List ℕ
eat h y x = xors y x • h

-- step 3 for blocks in turn, from Y on
unfoldable pub eats : (h y : List ℕ) → List (List ℕ) → List ℕ
eats h y [] = y
eats h y (x ∷ xs) = eats h (eat h y x) xs

-- the first m blocks of a string
unfoldable pub blocks_of : ℕ → List ℕ → List (List ℕ)
blocks_of zero s = []
blocks_of (suc m) s = take 16 s ∷ blocks_of m (drop 16 s)

-- the whole blocks of a string, from Y on
unfoldable pub hash_from : (h y s : List ℕ) → List ℕ
hash_from h y s = eats h y (blocks_of (length s / 16) s)

-- those blocks as a string, and the bytes behind them
abbrev pub whole_blocks : List ℕ → List ℕ
whole_blocks s = take (length s / 16 * 16) s

abbrev pub rest : List ℕ → List ℕ
rest s = drop (length s / 16 * 16) s

-- blocks that hold n bytes
abbrev pub ceil16 : ℕ → ℕ
ceil16 n = (n + 15) / 16

-- zeros behind a string up to a whole number of blocks, as section 7.1 puts them behind data and ciphertext
abbrev pub padded : List ℕ → List ℕ
padded s = s ++ replicate ((16 - length s % 16) % 16) 0

-- GHASH under H: from the zero block on
abbrev pub ghash : (h s : List ℕ) → List ℕ
ghash h s = hash_from h zeros s
