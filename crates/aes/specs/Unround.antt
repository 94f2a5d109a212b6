-- The round undone, FIPS 197, section 5.3. These definitions need not be believed by reading: `RoundUndone` of Laws.antt says that the round and this undo
-- each other on every block.
use Rattle.std.specs.Prelude.{ℕ, List, [], ◌∷◌, map}
use Rattle.words.specs.Xor.{◌⊕◌}
use Rattle.aes.specs.Field.{inverse, rotated}
use Rattle.aes.specs.Round.{gathered, mix_by}

-- the affine map undone: bits i + 2, i + 5 and i + 7, and bit i of 0x05
unfoldable pub unaffine : ℕ → ℕ
unaffine b = rotated 1 b ⊕ rotated 3 b ⊕ rotated 6 b ⊕ 0x05

-- the inverse S-box, section 5.3.2
unfoldable pub unsub : ℕ → ℕ
unsub b = inverse (unaffine b)

abbrev pub unsub_bytes : List ℕ → List ℕ
unsub_bytes = map unsub

-- section 5.3.1, the rows turn right again: byte 4c + r comes from column c - r
abbrev pub unshift_rows : List ℕ → List ℕ
unshift_rows = gathered (0 ∷ 13 ∷ 10 ∷ 7 ∷ 4 ∷ 1 ∷ 14 ∷ 11 ∷ 8 ∷ 5 ∷ 2 ∷ 15 ∷ 12 ∷ 9 ∷ 6 ∷ 3 ∷ [])

-- section 5.3.3
abbrev pub unmix_columns : List ℕ → List ℕ
unmix_columns = mix_by 14 11 13 9

-- each step undone, the last first
unfoldable pub unround : List ℕ → List ℕ
unround s = unsub_bytes (unshift_rows (unmix_columns s))
