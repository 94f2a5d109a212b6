-- The field GF(2^8) of FIPS 197, section 4, and the rule of its S-box, section 5.1.1.
-- A byte is a number below 256, and stands for the polynomial of degree below 8 whose coefficients are its bits, bit i for x^i. Addition is
-- xor, and a product is taken modulo x^8 + x^4 + x^3 + x + 1, which is 0x11b.
use Rattle.std.specs.Prelude.{ℕ, zero, suc, ◌+◌, ◌*◌, ◌/◌, ◌%◌, ◌^◌}
use Rattle.words.specs.Xor.{◌⊕◌}

-- a byte times x: a shift, and 0x11b taken off where the top bit fell out
unfoldable pub xtime : ℕ → ℕ
xtime b = b / 128 % 2 * 0x11b ⊕ b * 2

-- the sum of b · x^i over the bits i that a has among its n lowest
unfoldable pub mul_bits : ℕ → ℕ → ℕ → ℕ
mul_bits zero a b = 0
mul_bits (suc n) a b = a % 2 * b ⊕ mul_bits n (a / 2) (xtime b)

-- the product of two bytes
unfoldable pub gmul : ℕ → ℕ → ℕ
gmul a b = mul_bits 8 a b

-- a byte times itself
unfoldable pub square : ℕ → ℕ
square b = gmul b b

-- b to the power of 2^n - 1
unfoldable pub pow_ones : ℕ → ℕ → ℕ
pow_ones zero b = 1
pow_ones (suc n) b = gmul b (square (pow_ones n b))

-- the multiplicative inverse, as b^254 = (b^127)^2, since b^255 is 1 for every byte b but 0; 0 for 0
unfoldable pub inverse : ℕ → ℕ
inverse b = square (pow_ones 7 b)

-- a byte rotated left by n bits
unfoldable pub rotated : ℕ → ℕ → ℕ
rotated n b = b * 2 ^ n % 256 + b * 2 ^ n / 256

-- the affine map: bit i of the result is the sum of bits i, i + 4, i + 5, i + 6 and i + 7 of b, counted modulo 8, and bit i of 0x63
unfoldable pub affine : ℕ → ℕ
affine b = b ⊕ rotated 1 b ⊕ rotated 2 b ⊕ rotated 3 b ⊕ rotated 4 b ⊕ 0x63

-- the S-box: inverse in the field, then the affine map
unfoldable pub sub : ℕ → ℕ
sub b = affine (inverse b)
