-- The encryption round of FIPS 197, section 5.1, with a zero key; document 01, "Round, step and step back".
-- A block is a list of 16 bytes, and its byte 4c + r stands in row r and column c of the state. No key is added: a zero key adds nothing.
use Rattle.std.specs.Prelude.{ℕ, List, [], ◌∷◌, map, get_or}
use Rattle.words.specs.Xor.{◌⊕◌}
use Rattle.aes.specs.Field.{gmul, sub}

-- each byte through the S-box, section 5.1.1
abbrev pub sub_bytes : List ℕ → List ℕ
sub_bytes = map sub

-- what stands in s at each of the places
unfoldable pub gathered : List ℕ → List ℕ → List ℕ
gathered places s = map (λ i. get_or s i 0) places

-- section 5.1.2, row r turns left by r: byte 4c + r comes from column c + r
abbrev pub shift_rows : List ℕ → List ℕ
shift_rows = gathered (0 ∷ 5 ∷ 10 ∷ 15 ∷ 4 ∷ 9 ∷ 14 ∷ 3 ∷ 8 ∷ 13 ∷ 2 ∷ 7 ∷ 12 ∷ 1 ∷ 6 ∷ 11 ∷ [])

-- Each column times the matrix whose first row is k0 k1 k2 k3, and each further row the one before turned right by one.
-- (A rest of fewer than four bytes stays; a block has none.)
module _ (k0 k1 k2 k3 : ℕ) where
  -- a row of the matrix times a column
  unfoldable pub dot : ℕ → ℕ → ℕ → ℕ → ℕ
  dot a b c d = gmul k0 a ⊕ gmul k1 b ⊕ gmul k2 c ⊕ gmul k3 d

  unfoldable pub mix_by : List ℕ → List ℕ
  mix_by [] = []
  mix_by (a ∷ []) = a ∷ []
  mix_by (a ∷ b ∷ []) = a ∷ b ∷ []
  mix_by (a ∷ b ∷ c ∷ []) = a ∷ b ∷ c ∷ []
  mix_by (a ∷ b ∷ c ∷ d ∷ s) = dot a b c d ∷ dot b c d a ∷ dot c d a b ∷ dot d a b c ∷ mix_by s

-- section 5.1.3
abbrev pub mix_columns : List ℕ → List ℕ
mix_columns = mix_by 2 3 1 1

-- the round: SubBytes, ShiftRows, MixColumns
unfoldable pub round : List ℕ → List ℕ
round s = mix_columns (shift_rows (sub_bytes s))
