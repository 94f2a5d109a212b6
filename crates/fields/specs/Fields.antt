-- Fields of a block of bytes: whether tests of it all hold, whether a part is all zero, and the check (document 01, "Sessions and parking"). Numbers are low byte
-- first, as `number` and `little` of `words` have them, and a part is `part` of `words`. What stands in which part is said where a block is laid out.
use Rattle.std.specs.Prelude.{ℕ, ◌+◌, ◌%◌, ◌^◌, Bool, true, ◌&&◌, List, [], ◌∷◌, ◌++◌, ◌==◌}
use Rattle.words.specs.Bytes.{little, number, numbers, part}

-- whether all tests hold
unfoldable pub every : List Bool → Bool
every [] = true
every (b ∷ l) = b && every l

-- whether all bytes are zero
unfoldable pub all_zero : List ℕ → Bool
all_zero [] = true
all_zero (b ∷ s) = b == 0 && all_zero s

unfoldable pub total : List ℕ → ℕ
total [] = 0
total (x ∷ xs) = x + total xs

-- "check, the sum modulo 2^32 of the 127 words of 32 bits before": the block's first 127
unfoldable pub check : List ℕ → ℕ
check s = total (numbers 4 127 s) % 2 ^ 32

-- 508 bytes with their check behind them, low byte first
unfoldable pub checked : List ℕ → List ℕ
checked s = s ++ little 4 (check s)

-- whether bytes 508-511 are the check of those before
unfoldable pub check_holds : (block : List ℕ) → Bool
check_holds b = number (part 508 4 b) == check b
