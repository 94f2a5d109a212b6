-- Bytes as blocks of 512, one behind the other: the pages of a page file and the blocks of a key store (document 02, S-1 and S-6), and a block in its
-- place.
use Rattle.std.specs.Prelude.{ℕ, zero, suc, ◌+◌, ◌*◌, ◌/◌, ◌%◌, Bool, List, [], ◌∷◌, ◌++◌, length, take, drop, ◌==◌}

-- the first n blocks
unfoldable pub cut : ℕ → List ℕ → List (List ℕ)
cut zero s = []
cut (suc n) s = take 512 s ∷ cut n (drop 512 s)

-- all of them, in order
unfoldable pub blocks : List ℕ → List (List ℕ)
blocks s = cut (length s / 512) s

-- there are whole blocks only
abbrev pub whole : List ℕ → Bool
whole s = length s % 512 == 0

-- a block in its place, 512 times i bytes from the front on; every other byte stays
unfoldable pub replaced : (place : ℕ) → (block s : List ℕ) → List ℕ
replaced i b s = take (512 * i) s ++ b ++ drop (512 * i + 512) s
