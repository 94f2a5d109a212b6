-- The laws of xor that `lib.Bits` does not have, and one set, `xor`, with which `simp` proves an equation between sums: it sorts them and
-- drops what stands in one twice.
use Rattle.std.proofs.Common.{◌≡◌, ℕ, zero, suc, ◌+◌, ◌*◌, ◌/◌, ◌%◌, ◌^◌, ◌<◌, sym, refl, ap, ◌∙◌, ap₂, add-zero, mod-lt, one-mul, zero-mul, arith, lit<, pow_pos}
use lib.Arith.{bin_ind, digits_div, digits_mod}
use lib.Bits.{differ, xor_step, xor_comm, xor_self, xor_zero_r, xor_lt, xor_shr, xor_mod, xor_shifted, xor_block}
use Rattle.words.specs.Xor.{◌⊕◌}

differ_lt : (x y : ℕ) → x < 2 → y < 2 → differ x y < 2
differ_lt zero y hx hy = hy
differ_lt (suc zero) zero hx hy = lit< tt
differ_lt (suc zero) (suc zero) hx hy = lit< tt
differ_lt (suc zero) (suc (suc y)) hx hy = absurd (omega arith)
differ_lt (suc (suc x)) y hx hy = absurd (omega arith)

differ_assoc : (x y z : ℕ) → x < 2 → y < 2 → z < 2 → differ (differ x y) z ≡ differ x (differ y z)
differ_assoc zero y z hx hy hz = refl
differ_assoc (suc zero) zero z hx hy hz = refl
differ_assoc (suc zero) (suc zero) zero hx hy hz = refl
differ_assoc (suc zero) (suc zero) (suc zero) hx hy hz = refl
differ_assoc (suc zero) (suc zero) (suc (suc z)) hx hy hz = absurd (omega arith)
differ_assoc (suc zero) (suc (suc y)) z hx hy hz = absurd (omega arith)
differ_assoc (suc (suc x)) y z hx hy hz = absurd (omega arith)

pub odd : (n : ℕ) → n % 2 < 2
odd n = mod-lt n (lit< tt)

pub ⊕-step : (a b : ℕ) → a ⊕ b ≡ (a / 2 ⊕ b / 2) * 2 + differ (a % 2) (b % 2)
unfolding ◌⊕◌
⊕-step = xor_step

pub ⊕-half : (a b : ℕ) → (a ⊕ b) / 2 ≡ a / 2 ⊕ b / 2
⊕-half a b = rw (⊕-step a b) (digits_div (a / 2 ⊕ b / 2) (differ_lt (a % 2) (b % 2) (odd a) (odd b)))

pub ⊕-odd : (a b : ℕ) → (a ⊕ b) % 2 ≡ differ (a % 2) (b % 2)
⊕-odd a b = rw (⊕-step a b) (digits_mod (a / 2 ⊕ b / 2) (differ_lt (a % 2) (b % 2) (odd a) (odd b)))

pub ⊕-zero-l : (a : ℕ) → 0 ⊕ a ≡ a
unfolding ◌⊕◌
⊕-zero-l a = refl

pub ⊕-assoc : (a b c : ℕ) → (a ⊕ b) ⊕ c ≡ a ⊕ (b ⊕ c)
⊕-assoc a =
    bin_ind (λ (n : ℕ). (b c : ℕ) → (n ⊕ b) ⊕ c ≡ n ⊕ (b ⊕ c))
    (λ b c. ap (λ (x : ℕ). x ⊕ c) (⊕-zero-l b) ∙ sym (⊕-zero-l (b ⊕ c)))
    (λ n ih b c. ⊕-step (n ⊕ b) c
    ∙ ap₂ (λ (x y : ℕ). (x ⊕ c / 2) * 2 + differ y (c % 2)) (⊕-half n b) (⊕-odd n b)
    ∙ ap₂ (λ (x y : ℕ). x * 2 + y) (ih (b / 2) (c / 2)) (differ_assoc (n % 2) (b % 2) (c % 2) (odd n) (odd b) (odd c))
    ∙ sym (ap₂ (λ (x y : ℕ). (n / 2 ⊕ x) * 2 + differ (n % 2) y) (⊕-half b c) (⊕-odd b c))
    ∙ sym (⊕-step n (b ⊕ c))) a

pub ⊕-comm : (a b : ℕ) → a ⊕ b ≡ b ⊕ a
unfolding ◌⊕◌
⊕-comm = xor_comm

pub ⊕-self : (a : ℕ) → a ⊕ a ≡ 0
unfolding ◌⊕◌
⊕-self = xor_self

pub ⊕-zero-r : (a : ℕ) → a ⊕ 0 ≡ a
unfolding ◌⊕◌
⊕-zero-r = xor_zero_r

pub ⊕-lt : (k a b : ℕ) → a < 2 ^ k → b < 2 ^ k → a ⊕ b < 2 ^ k
unfolding ◌⊕◌
⊕-lt = xor_lt

pub ⊕-shr : (a b k : ℕ) → (a ⊕ b) / 2 ^ k ≡ a / 2 ^ k ⊕ b / 2 ^ k
unfolding ◌⊕◌
⊕-shr = xor_shr

pub ⊕-mod : (a b k : ℕ) → (a ⊕ b) % 2 ^ k ≡ a % 2 ^ k ⊕ b % 2 ^ k
unfolding ◌⊕◌
⊕-mod = xor_mod

-- digits above the k lowest, and digits below: xor is the sum
pub ⊕-shifted : (a k b : ℕ) → b < 2 ^ k → a * 2 ^ k ⊕ b ≡ a * 2 ^ k + b
unfolding ◌⊕◌
⊕-shifted = xor_shifted

pub ⊕-left : (a b c : ℕ) → a ⊕ (b ⊕ c) ≡ b ⊕ (a ⊕ c)
⊕-left a b c = sym (⊕-assoc a b c) ∙ ap (λ (x : ℕ). x ⊕ c) (⊕-comm a b) ∙ ⊕-assoc b a c

pub ⊕-cancel : (a b : ℕ) → a ⊕ (a ⊕ b) ≡ b
⊕-cancel a b = sym (⊕-assoc a a b) ∙ ap (λ (x : ℕ). x ⊕ b) (⊕-self a) ∙ ⊕-zero-l b

-- `simp xor` sorts a sum of words, and drops what stands in it twice
pub ruleset xor = (⊕-assoc, ⊕-comm, ⊕-left, ⊕-self, ⊕-cancel, ⊕-zero-l, ⊕-zero-r)

pub ⊕-twice : (a b : ℕ) → a ≡ (a ⊕ b) ⊕ b
⊕-twice a b = simp xor

-- what differs by nothing is the same
pub ⊕-equal : (a b : ℕ) → a ⊕ b ≡ 0 → a ≡ b
⊕-equal a b e = ⊕-twice a b ∙ ap (λ (n : ℕ). n ⊕ b) e ∙ ⊕-zero-l b

-- a bit is 0 or 1
pub bit : (P : ℕ → Type 0) (t : ℕ) → t < 2 → P 0 → P 1 → P t
bit P zero h p q = p
bit P (suc zero) h p q = q
bit P (suc (suc t)) h p q = absurd (omega arith)

-- a bit as a factor
pub bit_lt : (m c t : ℕ) → c < m → t < 2 → t * c < m
bit_lt m c t hc ht = bit (λ (t : ℕ). t * c < m) t ht (rw zero-mul (omega arith)) (rw one-mul hc)

pub bit_times : (c p q : ℕ) → p < 2 → q < 2 → (p ⊕ q) * c ≡ p * c ⊕ q * c
bit_times c p q hp hq =
    bit (λ p. (p ⊕ q) * c ≡ p * c ⊕ q * c) p hp (simp (zero-mul, ⊕-zero-l))
    (bit (λ q. (1 ⊕ q) * c ≡ 1 * c ⊕ q * c) q hq (simp (zero-mul, ⊕-zero-r)) (simp (⊕-self, zero-mul)))

-- a bit times a sum
pub bit_over : (t a b : ℕ) → t < 2 → t * (a ⊕ b) ≡ t * a ⊕ t * b
bit_over t a b h = bit (λ t. t * (a ⊕ b) ≡ t * a ⊕ t * b) t h (simp (zero-mul, ⊕-zero-l)) (simp one-mul)

-- the bit at a place of a sum
pub bit_sum : (a b k c : ℕ) → (a ⊕ b) / 2 ^ k % 2 * c ≡ a / 2 ^ k % 2 * c ⊕ b / 2 ^ k % 2 * c
bit_sum a b k c =
    ap (λ (t : ℕ). t * c) (ap (λ (s : ℕ). s % 2) (⊕-shr a b k) ∙ ⊕-mod (a / 2 ^ k) (b / 2 ^ k) 1)
    ∙ bit_times c (a / 2 ^ k % 2) (b / 2 ^ k % 2) (odd (a / 2 ^ k)) (odd (b / 2 ^ k))

pub ⊕-shl : (a b k : ℕ) → (a ⊕ b) * 2 ^ k ≡ a * 2 ^ k ⊕ b * 2 ^ k
unfolding ◌⊕◌
⊕-shl a b k =
    sym (add-zero _) ∙ sym (xor_block k a b 0 0 (pow_pos k) (pow_pos k))
    ∙ ap₂ (λ (x y : ℕ). x ⊕ y) (add-zero (a * 2 ^ k)) (add-zero (b * 2 ^ k))

pub ⊕-double : (a b : ℕ) → (a ⊕ b) * 2 ≡ a * 2 ⊕ b * 2
⊕-double a b = ⊕-shl a b 1

-- 2^15 and what is below it
pub ⊕-top : (r : ℕ) → r < 2 ^ 15 → 2 ^ 15 ⊕ r ≡ 2 ^ 15 + r
⊕-top = ⊕-shifted 1 15

-- twice a number, and one
pub ⊕-one : (n : ℕ) → n * 2 ⊕ 1 ≡ n * 2 + 1
⊕-one n = ⊕-shifted n 1 1 (lit< tt)
