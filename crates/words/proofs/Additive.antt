-- Maps that take xor to xor, over the numbers below 2 ^ w: two of them that agree on the powers of two agree on every number, since each is a xor of such powers.
use Rattle.std.proofs.Common.{◌≡◌, ℕ, zero, suc, ◌*◌, ◌/◌, ◌%◌, ◌^◌, ◌<◌, ◌≤◌, sym, ap, ◌∙◌, ap₂, le_refl, lt_of_lt_of_le, le_of_lt, mod-lt, mod-eq_of_lt, one-mul, zero-mul, one-add, pow_pos}
use native.Mathlib.Nat.{mod-one}
use lib.Pow.{mod-pow-add, pow-lt}
use Rattle.words.specs.Xor.{◌⊕◌}
use Rattle.words.proofs.XorLaws.{odd, bit, bit_lt, ⊕-self, ⊕-shifted}

abbrev pub Additive : ℕ → (ℕ → ℕ) → Type 0
Additive w f = (x y : ℕ) → x < 2 ^ w → y < 2 ^ w → f (x ⊕ y) ≡ f x ⊕ f y

pub additive_zero : (w : ℕ) (f : ℕ → ℕ) → Additive w f → f 0 ≡ 0
additive_zero w f add = ap f (sym (⊕-self 0)) ∙ add 0 0 (pow_pos w) (pow_pos w) ∙ ⊕-self (f 0)

pub additive_bit : (w : ℕ) (f : ℕ → ℕ) → Additive w f → (b v : ℕ) → b < 2 → f (b * v) ≡ b * f v
additive_bit w f add b v h = bit (λ b. f (b * v) ≡ b * f v) b h (simp zero-mul (additive_zero w f add)) (simp one-mul)

-- a number's n + 1 low bits, by the highest of them
pub top_bit : (y n : ℕ) → y % 2 ^ suc n ≡ (y / 2 ^ n % 2) * 2 ^ n ⊕ y % 2 ^ n
top_bit y n =
    ap (λ (k : ℕ). y % 2 ^ k) (sym (one-add n)) ∙ mod-pow-add y 1 n ∙ sym (⊕-shifted (y / 2 ^ n % 2) n (y % 2 ^ n) (mod-lt y (pow_pos n)))

module _ (w : ℕ) (f g : ℕ → ℕ) (fa : Additive w f) (ga : Additive w g) (at_bit : (k : ℕ) → k < w → f (2 ^ k) ≡ g (2 ^ k)) where
  agree_below : (n y : ℕ) → n ≤ w → f (y % 2 ^ n) ≡ g (y % 2 ^ n)
  agree_below zero y h = ap f (mod-one y) ∙ additive_zero w f fa ∙ sym (additive_zero w g ga) ∙ ap g (sym (mod-one y))
  agree_below (suc n) y h =
      let b = y / 2 ^ n % 2 in
      let hb : b < 2 = odd (y / 2 ^ n) in
      let small : y % 2 ^ n < 2 ^ w = lt_of_lt_of_le (mod-lt y (pow_pos n)) (le_of_lt (pow-lt h)) in
      let power : b * 2 ^ n < 2 ^ w = bit_lt (2 ^ w) (2 ^ n) b (pow-lt h) hb in
      ap f (top_bit y n) ∙ fa (b * 2 ^ n) (y % 2 ^ n) power small
      ∙ ap₂ ◌⊕◌ (additive_bit w f fa b (2 ^ n) hb ∙ ap (λ (v : ℕ). b * v) (at_bit n h) ∙ sym (additive_bit w g ga b (2 ^ n) hb)) (agree_below n y (le_of_lt h))
      ∙ sym (ga (b * 2 ^ n) (y % 2 ^ n) power small) ∙ ap g (sym (top_bit y n))

  pub additive_agree : (y : ℕ) → y < 2 ^ w → f y ≡ g y
  additive_agree y h = ap f (sym (mod-eq_of_lt h)) ∙ agree_below w y (le_refl w) ∙ ap g (mod-eq_of_lt h)
