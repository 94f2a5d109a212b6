-- The product of two blocks, NIST SP 800-38D, section 6.3: Algorithm 1, "Multiplication Operation on Blocks".
-- A block is a number below 2^128. Its leftmost bit, x0, is the number's highest, 2^127, and byte 0 its leftmost byte. The reading of blocks as
-- polynomials is left out: the algorithm does not need it.
use Rattle.std.specs.Prelude.{ℕ, zero, suc, ◌*◌, ◌/◌, ◌%◌, ◌^◌}
use Rattle.words.specs.Xor.{◌⊕◌}

-- R = 11100001 || 0^120
abbrev pub R : ℕ
R = 0xe1 * 2 ^ 120

-- V(i+1) from V(i): V >> 1, and that ⊕ R if the bit shifted out is 1
unfoldable pub times_x : ℕ → ℕ
times_x v = v / 2 ⊕ (v % 2) * R

-- step 3 for the n rightmost bits of X, the leftmost of them first, from Z and V on: Z becomes Z ⊕ V if the bit is 1
unfoldable pub steps : (n x z v : ℕ) → ℕ
steps zero x z v = z
steps (suc n) x z v = steps n x (z ⊕ (x / 2 ^ n % 2) * v) (times_x v)

-- X • Y: all 128 bits of X, from Z = 0 and V = Y on
unfoldable pub product : ℕ → ℕ → ℕ
product x y = steps 128 x 0 y
