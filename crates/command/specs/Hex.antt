-- Lower-case hex (document 01, "Whole pages, keeping, program"). Characters are their ASCII bytes: the digits 0 to 9 are bytes 30 to 39, a to f
-- are 61 to 66. A byte is two digits, the high one first.
use Rattle.std.specs.Prelude.{ℕ, ◌+◌, ◌-◌, ◌*◌, ◌/◌, ◌%◌, Bool, true, ◌&&◌, List, [], ◌∷◌, leb, ltb}
use Rattle.scope.specs.Refusals.{pick}

-- what a digit says; 16 for a byte that is no digit
unfoldable pub digit : ℕ → ℕ
digit b = pick (leb 0x30 b && leb b 0x39) (b - 0x30) (pick (leb 0x61 b && leb b 0x66) (10 + (b - 0x61)) 16)

-- whether every byte is a digit
unfoldable pub all_digits : List ℕ → Bool
all_digits [] = true
all_digits (b ∷ s) = ltb (digit b) 16 && all_digits s

-- the bytes that an even number of digits says
unfoldable pub bytes_of : List ℕ → List ℕ
bytes_of [] = []
bytes_of (h ∷ []) = []
bytes_of (h ∷ l ∷ s) = (digit h * 16 + digit l) ∷ bytes_of s

-- the digit that says a number below 16
unfoldable pub glyph : ℕ → ℕ
glyph v = pick (ltb v 10) (0x30 + v) (0x61 + (v - 10))

-- the digits that say bytes
unfoldable pub hex_of : List ℕ → List ℕ
hex_of [] = []
hex_of (b ∷ s) = glyph (b / 16) ∷ glyph (b % 16) ∷ hex_of s
