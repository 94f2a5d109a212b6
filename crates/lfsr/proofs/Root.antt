-- A root and its inverse undo each other, for every odd constant c below 2^16: the bit that falls off at the top comes back as the low bit,
-- since c is odd, and the inverse's constant, c / 2 + 2^15, takes c's other bits off again. Alpha and beta are two such c.
use mathlib.Core.Path.{◌≡◌, refl, ap, ◌∙◌}
use Prim.Native.Nat.{ℕ, zero, suc, ◌+◌, ◌-◌, ◌*◌, ◌/◌, ◌%◌, ◌^◌, ◌<◌}
use native.Mathlib.Omega.{arith}
use native.Mathlib.Nat.{zero-mul, one-mul}
use lib.Dec.{lit<}
use Rattle.words.specs.Xor.{◌⊕◌}
use Rattle.words.proofs.XorLaws.{⊕-half, ⊕-odd, ⊕-shr, ⊕-mod, ⊕-lt, ⊕-zero-l, ⊕-zero-r, ⊕-double, ⊕-comm, ⊕-top, ⊕-one, xor, bit_lt}
use Rattle.lfsr.specs.Cells.{times, over, alpha, alpha⁻¹, beta, beta⁻¹}

pub times_lt : (c x : ℕ) → c < 2 ^ 16 → x < 2 ^ 16 → times c x < 2 ^ 16
unfolding times
times_lt c x hc hx = ⊕-lt 16 (x * 2 % 2 ^ 16) (x / 2 ^ 15 * c) (omega arith) (bit_lt (2 ^ 16) c (x / 2 ^ 15) hc (omega arith))

pub over_lt : (d x : ℕ) → d < 2 ^ 16 → x < 2 ^ 16 → over d x < 2 ^ 16
unfolding over
over_lt d x hd hx = ⊕-lt 16 (x / 2) (x % 2 * d) (omega arith) (bit_lt (2 ^ 16) d (x % 2) hd (omega arith))

module _ (c : ℕ) (odd : c % 2 ≡ 1) (small : c < 2 ^ 16) where
  pub over_times : (x : ℕ) → x < 2 ^ 16 → over (c / 2 + 2 ^ 15) (times c x) ≡ x
  unfolding times over
  over_times x hx = go (x / 2 ^ 15) refl
    where
      go : (t : ℕ) → x / 2 ^ 15 ≡ t → over (c / 2 + 2 ^ 15) ((x * 2 % 2 ^ 16) ⊕ (t * c)) ≡ x
      go zero h =
          let e : (x * 2 % 2 ^ 16) / 2 ≡ x = omega arith in
          let o : (x * 2 % 2 ^ 16) % 2 ≡ 0 = omega arith in
          simp (zero-mul, ⊕-zero-r, e, o)
      go (suc zero) h =
          let e : (x * 2 % 2 ^ 16) / 2 ≡ x - 2 ^ 15 = omega arith in
          let o : (x * 2 % 2 ^ 16) % 2 ≡ 0 = omega arith in
          let d : c / 2 + 2 ^ 15 ≡ 2 ^ 15 ⊕ c / 2 = omega (arith, ⊕-top (c / 2) (omega arith)) in
          let r : 2 ^ 15 ⊕ (x - 2 ^ 15) ≡ x = omega (arith, ⊕-top (x - 2 ^ 15) (omega arith)) in
          simp (one-mul, ⊕-half, ⊕-odd, e, o, odd) (rw d (simp xor (⊕-comm (x - 2 ^ 15) (2 ^ 15) ∙ r)))
      go (suc (suc t)) h = absurd (omega arith)

  pub times_over : (x : ℕ) → x < 2 ^ 16 → times c (over (c / 2 + 2 ^ 15) x) ≡ x
  unfolding times over
  times_over x hx = go (x % 2) refl
    where
      go : (t : ℕ) → x % 2 ≡ t → times c ((x / 2) ⊕ (t * (c / 2 + 2 ^ 15))) ≡ x
      go zero h =
          let e : x / 2 * 2 % 2 ^ 16 ≡ x = omega arith in
          let o : x / 2 / 2 ^ 15 ≡ 0 = omega arith in
          simp (zero-mul, ⊕-zero-r, e, o)
      go (suc zero) h =
          let e : x / 2 * 2 % 2 ^ 16 ≡ x / 2 * 2 = omega arith in
          let f : (c / 2 + 2 ^ 15) * 2 % 2 ^ 16 ≡ c / 2 * 2 = omega arith in
          let o : x / 2 / 2 ^ 15 ≡ 0 = omega arith in
          let p : (c / 2 + 2 ^ 15) / 2 ^ 15 ≡ 1 = omega arith in
          let s : c ≡ c / 2 * 2 ⊕ 1 = omega (arith, ⊕-one (c / 2)) in
          let u : x / 2 * 2 ⊕ 1 ≡ x = omega (arith, ⊕-one (x / 2)) in
          simp (one-mul, ⊕-shr, ⊕-double, ⊕-mod, e, f, o, p, ⊕-zero-l)
          (ap (λ (z : ℕ). x / 2 * 2 ⊕ c / 2 * 2 ⊕ z) s ∙ simp xor (⊕-comm 1 (x / 2 * 2) ∙ u))
      go (suc (suc t)) h = absurd (omega arith)

-- one undoes the other, on cells
pub record Inverses (f g : ℕ → ℕ) : Type 0 where
  pub back : (x : ℕ) → x < 2 ^ 16 → g (f x) ≡ x
  pub forth : (x : ℕ) → x < 2 ^ 16 → f (g x) ≡ x

pub inverses : (c : ℕ) → c % 2 ≡ 1 → c < 2 ^ 16 → Inverses (times c) (over (c / 2 + 2 ^ 15))
inverses c odd small = record { back = over_times c odd small; forth = times_over c odd small }

pub alpha_inverses : Inverses alpha alpha⁻¹
alpha_inverses = inverses 0x990f refl (lit< tt)

pub beta_inverses : Inverses beta beta⁻¹
beta_inverses = inverses 0xc963 refl (lit< tt)
