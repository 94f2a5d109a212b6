-- How the code holds a block, in two halves of 64 bits, and the multiples of one in a table of words. Definitions speak of numbers and of 16
-- bytes, contracts of `bytes_of_element`.
use Rattle.std.specs.Prelude.{ℕ, ◌+◌, ◌-◌, ◌*◌, ◌^◌, ◌<◌, ◌≡◌, List, ◌++◌, get_or}
use Rattle.words.specs.Bytes.{little}
use Rattle.ghash.specs.Field.{product}
use Rattle.ghash.specs.Hash.{big}
use Rattle.ghash.specs.declared.Element.{Element}

-- the block's 16 bytes
unfoldable pub bytes_of_element : Element → List ℕ
bytes_of_element e = little 8 e.lo ++ little 8 e.hi

-- the number that two words of a table spell, from word i on
abbrev pub entry : List ℕ → ℕ → ℕ
entry t i = big (bytes_of_element (record { lo = get_or t i 0; hi = get_or t (i + 1) 0 }))

-- the table of H, 16 entries for each of a block's 32 places of four bits, place 0 the leftmost: entry v of place p is v, at that place, • H
unfoldable pub Table : (h table : List ℕ) → Type 0
Table h t = (p v : ℕ) → p < 32 → v < 16 → entry t (p * 32 + v * 2) ≡ product (v * 16 ^ (31 - p)) (big h)
