-- A product by a constant is linear over xor, since a shift and the reduction are; and so a product by a constant is a sum of doublings.
use mathlib.Core.Path.{◌≡◌, sym, ap, ap₂, ◌∙◌}
use Prim.Native.Nat.{ℕ, zero, suc, ◌*◌, ◌/◌, ◌%◌, ◌<◌}
use native.Mathlib.Nat.{mod-lt, zero-mul, one-mul}
use lib.Dec.{lit<}
use Rattle.words.specs.Xor.{◌⊕◌}
use Rattle.words.proofs.XorLaws.{xor, bit, bit_over, bit_sum, ⊕-lt, ⊕-double, ⊕-zero-l}
use Rattle.aes.specs.Field.{xtime, mul_bits, gmul}
use Rattle.aes.proofs.Tests.{each_lt}

pub xtime_xor : (a b : ℕ) → xtime (a ⊕ b) ≡ xtime a ⊕ xtime b
unfolding xtime
xtime_xor a b =
    ap₂ ◌⊕◌
    (bit_sum a b 7 0x11b) (⊕-double a b)
    ∙ simp xor

mul_bits_xor : (n k a b : ℕ) → mul_bits n k (a ⊕ b) ≡ mul_bits n k a ⊕ mul_bits n k b
unfolding mul_bits
mul_bits_xor zero k a b = sym (⊕-zero-l 0)
mul_bits_xor (suc n) k a b =
    ap₂ ◌⊕◌ (bit_over (k % 2) a b (mod-lt k (lit< tt))) (ap (mul_bits n (k / 2)) (xtime_xor a b) ∙ mul_bits_xor n (k / 2) (xtime a) (xtime b))
    ∙ simp xor

pub gmul_xor : (k a b : ℕ) → gmul k (a ⊕ b) ≡ gmul k a ⊕ gmul k b
unfolding gmul
gmul_xor = mul_bits_xor 8

-- ---- bytes stay bytes

pub xtime_lt : (b : ℕ) → b < 256 → xtime b < 256
unfolding xtime ◌⊕◌
xtime_lt = each_lt xtime tt

mul_bits_lt : (n k b : ℕ) → b < 256 → mul_bits n k b < 256
unfolding mul_bits
mul_bits_lt zero k b h = lit< tt
mul_bits_lt (suc n) k b h =
    ⊕-lt 8 (k % 2 * b) (mul_bits n (k / 2) (xtime b))
    (bit (λ (t : ℕ). t * b < 256) (k % 2) (mod-lt k (lit< tt)) (simp zero-mul (lit< tt)) (simp one-mul h))
    (mul_bits_lt n (k / 2) (xtime b) (xtime_lt b h))

pub gmul_lt : (k b : ℕ) → b < 256 → gmul k b < 256
unfolding gmul
gmul_lt = mul_bits_lt 8

-- ---- with `gmul` and `mul_bits` unfolded, `simp products` turns a product by a constant into a sum of doublings

pub ruleset products = (zero-mul, one-mul, xtime_xor)
