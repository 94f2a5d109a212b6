-- Maps of cells that are linear over xor: two of them that agree on the sixteen powers of two agree on every cell, since every cell is a xor
-- of such powers. So an equation between two is shown by one computed test.
use mathlib.Core.Path.{◌≡◌, refl, ap, ◌∙◌}
use mathlib.Core.Bool.{Bool}
use Prim.Native.Nat.{ℕ, ◌*◌, ◌/◌, ◌%◌, ◌^◌, ◌<◌}
use native.Mathlib.Omega.{arith}
use native.Mathlib.Nat.{mod-lt}
use lib.Dec.{T, eqb, eqb→eq}
use lib.Pow.{pow_pos}
use Rattle.words.specs.Xor.{◌⊕◌}
use Rattle.words.proofs.XorLaws.{⊕-shr, ⊕-mod, ⊕-lt, ⊕-shl, ⊕-double, xor, bit_lt, bit_times, bit_sum}
use Rattle.words.proofs.Tests.{passes, below}
use Rattle.words.proofs.Additive.{Additive, additive_agree}
use Rattle.lfsr.specs.Cells.{times}
use Rattle.lfsr.proofs.Root.{times_lt}

pub record Linear (f : ℕ → ℕ) : Type 0 where
  pub keeps : (x : ℕ) → x < 2 ^ 16 → f x < 2 ^ 16
  pub adds : Additive 16 f

pub linear_same : Linear (λ x. x)
linear_same = record { keeps = λ x h. h; adds = λ x y hx hy. refl }

pub linear_after : {f g : ℕ → ℕ} → Linear g → Linear f → Linear (λ x. g (f x))
linear_after {f} {g} lg lf =
    record {
      keeps = λ x h. lg.keeps (f x) (lf.keeps x h);
      adds = λ x y hx hy. ap g (lf.adds x y hx hy) ∙ lg.adds (f x) (f y) (lf.keeps x hx) (lf.keeps y hy);
    }

pub linear_sum : {f g : ℕ → ℕ} → Linear f → Linear g → Linear (λ x. f x ⊕ g x)
linear_sum {f} {g} lf lg =
    record {
      keeps = λ x h. ⊕-lt 16 (f x) (g x) (lf.keeps x h) (lg.keeps x h);
      adds = λ x y hx hy. simp (lf.adds x y hx hy, lg.adds x y hx hy, xor);
    }

-- f and g agree on 2 ^ k
abbrev agrees : (f g : ℕ → ℕ) → ℕ → Bool
agrees f g k = eqb (f (2 ^ k)) (g (2 ^ k))

-- and on the k lowest powers of two: a test that antt computes
abbrev pub agree : (f g : ℕ → ℕ) → ℕ → Bool
agree f g = passes (agrees f g)

pub agreed : {f g : ℕ → ℕ} → Linear f → Linear g → T (agree f g 16) → (x : ℕ) → x < 2 ^ 16 → f x ≡ g x
agreed {f} {g} lf lg t = additive_agree 16 f g lf.adds lg.adds (λ k h. eqb→eq (f (2 ^ k)) (g (2 ^ k)) (below (agrees f g) 16 t k h))

-- shifts, and a bit times a constant
pub linear_shl : (k : ℕ) → Linear (λ x. x * 2 ^ k % 2 ^ 16)
linear_shl k =
    record {
      keeps = λ x h. mod-lt (x * 2 ^ k) (pow_pos 16);
      adds = λ x y hx hy. ap (λ (z : ℕ). z % 2 ^ 16) (⊕-shl x y k) ∙ ⊕-mod (x * 2 ^ k) (y * 2 ^ k) 16;
    }

pub linear_bit : (i c : ℕ) → c < 2 ^ 16 → Linear (λ x. x / 2 ^ i % 2 * c)
linear_bit i c h =
    record {
      keeps = λ x hx. bit_lt (2 ^ 16) c (x / 2 ^ i % 2) h (omega arith);
      adds = λ x y hx hy. bit_sum x y i c;
    }

pub linear_times : (c : ℕ) → c < 2 ^ 16 → Linear (times c)
unfolding times
linear_times c h =
    record {
      keeps = λ x hx. times_lt c x h hx;
      adds = λ x y hx hy.
          simp (⊕-double, ⊕-mod, ⊕-shr, bit_times c (x / 2 ^ 15) (y / 2 ^ 15) (omega arith) (omega arith), xor);
    }
