-- The cells of the registers: SNOW-V paper, section 2, equations (1) and (2); document 01, "Words and the two registers".
-- A cell has 16 bits: a number below 2^16, whose bit i stands for x^i. The constant of a root holds the terms below x^16 of the polynomial
-- that it is a root of. Left out: the two fields as such; all that is ever multiplied by is a root or its inverse.
use Rattle.std.specs.Prelude.{ℕ, ◌*◌, ◌/◌, ◌%◌, ◌^◌}
use Rattle.words.specs.Xor.{◌⊕◌}

-- times the root whose constant is c: shift left by one, dropping the top bit, and xor c if that bit was 1
unfoldable pub times : ℕ → ℕ → ℕ
times c x = (x * 2 % 2 ^ 16) ⊕ (x / 2 ^ 15 * c)

-- times the inverse of a root, whose constant is d: shift right by one, and xor d if the low bit was 1
unfoldable pub over : ℕ → ℕ → ℕ
over d x = (x / 2) ⊕ (x % 2 * d)

-- alpha, a root of (1), and its inverse
abbrev pub alpha : ℕ → ℕ
alpha = times 0x990f

abbrev pub alpha⁻¹ : ℕ → ℕ
alpha⁻¹ = over 0xcc87

-- beta, a root of (2), and its inverse
abbrev pub beta : ℕ → ℕ
beta = times 0xc963

abbrev pub beta⁻¹ : ℕ → ℕ
beta⁻¹ = over 0xe4b1
