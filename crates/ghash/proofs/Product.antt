-- The product is the ⊕ of Vᵢ over the bits xᵢ of X that are 1, so it is linear in X; 80 00.. is its one; and X • Y is (X moved one bit to the
-- left) • (Y times x), which is what the table of H rests on.
use mathlib.Core.Path.{◌≡◌, refl, sym, ap, ap₂, ◌∙◌}
use Prim.Native.Nat.{ℕ, zero, suc, ◌*◌, ◌/◌, ◌%◌, ◌^◌, ◌<◌}
use native.Mathlib.Omega.{arith}
use native.Mathlib.Nat.{zero-mul, one-mul, mul-one, mul-mod_left, mul-div_cancel, mod-eq_of_lt, div-eq_of_lt, pow-suc, mul_assoc, lt_of_le_of_lt}
use native.Mathlib.Numerals.{one-add}
use lib.Dec.{lit<}
use lib.Pow.{shr_le, shr-shr}
use Rattle.words.specs.Xor.{◌⊕◌}
use Rattle.words.proofs.XorLaws.{xor, odd, bit_lt, bit_sum, ⊕-zero-l, ⊕-zero-r, ⊕-lt}
use Rattle.words.proofs.Additive.{additive_zero, top_bit}
use Rattle.ghash.specs.Field.{R, times_x, steps, product}
use Rattle.ghash.specs.Laws.{one}

-- ---- what n steps add to Z

pub added : (n x v : ℕ) → ℕ
added n x v = steps n x 0 v

steps_added : (n x z v : ℕ) → steps n x z v ≡ z ⊕ added n x v
unfolding steps added
steps_added zero x z v = sym (⊕-zero-r z)
steps_added (suc n) x z v =
    let b = (x / 2 ^ n % 2) * v in
    steps_added n x (z ⊕ b) (times_x v) ∙ rw (steps_added n x (0 ⊕ b) (times_x v)) (simp xor)

pub added_none : (x v : ℕ) → added 0 x v ≡ 0
unfolding steps added
added_none x v = refl

pub added_more : (n x v : ℕ) → added (suc n) x v ≡ (x / 2 ^ n % 2) * v ⊕ added n x (times_x v)
unfolding steps added
added_more n x v = steps_added n x (0 ⊕ (x / 2 ^ n % 2) * v) (times_x v) ∙ simp xor

pub product_added : (x y : ℕ) → product x y ≡ added 128 x y
unfolding product added
product_added x y = refl

-- ---- linear in X

added_xor : (n x y v : ℕ) → added n (x ⊕ y) v ≡ added n x v ⊕ added n y v
added_xor zero x y v = rw (added_none (x ⊕ y) v, added_none x v, added_none y v) (sym (⊕-zero-l 0))
added_xor (suc n) x y v =
    rw (added_more n (x ⊕ y) v, added_more n x v, added_more n y v, bit_sum x y n v, added_xor n x y (times_x v)) (simp xor)

pub product_xor : (x y h : ℕ) → product (x ⊕ y) h ≡ product x h ⊕ product y h
product_xor x y h = rw (product_added (x ⊕ y) h, product_added x h, product_added y h) (added_xor 128 x y h)

pub product_zero : (h : ℕ) → product 0 h ≡ 0
product_zero h = additive_zero 128 (λ (x : ℕ). product x h) (λ x y hx hy. product_xor x y h)

-- ---- moved to the left

added_low : (n x v : ℕ) → x < 2 ^ n → added (suc n) x v ≡ added n x (times_x v)
added_low n x v h =
    added_more n x v ∙ ap (λ (q : ℕ). (q % 2) * v ⊕ added n x (times_x v)) (div-eq_of_lt h)
    ∙ ap (λ (z : ℕ). z ⊕ added n x (times_x v)) (zero-mul v) ∙ ⊕-zero-l (added n x (times_x v))

even_bit : (n x : ℕ) → x * 2 / 2 ^ suc n ≡ x / 2 ^ n
even_bit n x =
    ap (λ (e : ℕ). x * 2 / 2 ^ e) (sym (one-add n)) ∙ sym (shr-shr (x * 2) 1 n) ∙ ap (λ (q : ℕ). q / 2 ^ n) (mul-div_cancel x (lit< tt))

added_even : (n x v : ℕ) → added (suc n) (x * 2) v ≡ added n x v
added_even zero x v =
    let e : x * 2 / 2 ^ 0 % 2 ≡ 0 = omega arith in
    rw (added_more 0 (x * 2) v, e, added_none (x * 2) (times_x v), added_none x v, zero-mul v) (⊕-zero-l 0)
added_even (suc n) x v = rw (added_more (suc n) (x * 2) v, even_bit n x, added_even n x (times_x v)) (sym (added_more n x v))

-- X x⁻¹ • Y x
pub product_shift : (x h : ℕ) → x < 2 ^ 127 → product x h ≡ product (x * 2) (times_x h)
product_shift x h l =
    product_added x h ∙ added_low 127 x h l ∙ sym (added_even 127 x (times_x h)) ∙ sym (product_added (x * 2) (times_x h))

-- ---- the one

added_high : (n x v : ℕ) → added n (x * 2 ^ n) v ≡ 0
added_high zero x v = added_none (x * 1) v
added_high (suc n) x v =
    ap (λ (y : ℕ). added (suc n) y v) (ap (λ (p : ℕ). x * p) (pow-suc 2 n) ∙ sym (mul_assoc x (2 ^ n) 2)) ∙ added_even n (x * 2 ^ n) v ∙ added_high n x v

pub one_product : (h : ℕ) → product one h ≡ h
one_product h =
    product_added one h ∙ added_more 127 one h ∙ ap₂ ◌⊕◌ (one-mul h) (added_high 127 1 (times_x h)) ∙ ⊕-zero-r h

times_x_even : (n : ℕ) → times_x (n * 2) ≡ n
unfolding times_x
times_x_even n =
    ap₂ (λ (a b : ℕ). a ⊕ b * R) (mul-div_cancel n (lit< tt)) (mul-mod_left n 2) ∙ ⊕-zero-r n

pub times_x_half : (n : ℕ) → times_x (2 ^ suc n) ≡ 2 ^ n
times_x_half n = ap times_x (pow-suc 2 n) ∙ times_x_even (2 ^ n)

added_one : (n x : ℕ) → added (suc n) x (2 ^ n) ≡ x % 2 ^ suc n
added_one zero x =
    rw (added_more 0 x 1, added_none x (times_x 1), mul-one (x / 2 ^ 0 % 2), ⊕-zero-r (x / 2 ^ 0 % 2)) (omega arith)
added_one (suc n) x =
    added_more (suc n) x (2 ^ suc n)
    ∙ ap (λ (r : ℕ). (x / 2 ^ suc n % 2) * 2 ^ suc n ⊕ r)
    (ap (added (suc n) x) (times_x_half n) ∙ added_one n x)
    ∙ sym (top_bit x (suc n))

pub product_one : (x : ℕ) → x < 2 ^ 128 → product x one ≡ x
product_one x h = product_added x one ∙ added_one 127 x ∙ mod-eq_of_lt h

-- ---- products are blocks

pub times_x_lt : (v : ℕ) → v < 2 ^ 128 → times_x v < 2 ^ 128
unfolding times_x
times_x_lt v h = ⊕-lt 128 (v / 2) ((v % 2) * R) (lt_of_le_of_lt (shr_le v 1) h) (bit_lt (2 ^ 128) R (v % 2) (lit< tt) (odd v))

pub added_lt : (n x v : ℕ) → v < 2 ^ 128 → added n x v < 2 ^ 128
added_lt zero x v h = rw (added_none x v) (lit< tt)
added_lt (suc n) x v h =
    rw (added_more n x v)
    (⊕-lt 128 ((x / 2 ^ n % 2) * v) (added n x (times_x v)) (bit_lt (2 ^ 128) v (x / 2 ^ n % 2) h (odd (x / 2 ^ n))) (added_lt n x (times_x v) (times_x_lt v h)))

pub product_lt : (x h : ℕ) → h < 2 ^ 128 → product x h < 2 ^ 128
product_lt x h l = rw (product_added x h) (added_lt 128 x h l)
