-- The product is that of a commutative ring with one. A map that takes xor to xor and commutes with the step of V commutes with every product X •; the product
-- by X is itself such a map, so products by X and by Y change places, and with the one that makes them commute and associate.
use mathlib.Core.Path.{◌≡◌, refl, sym, ap, ap₂, ◌∙◌}
use Prim.Native.Nat.{ℕ, zero, suc, ◌*◌, ◌/◌, ◌%◌, ◌^◌, ◌<◌}
use lib.Dec.{lit<}
use Rattle.words.specs.Xor.{◌⊕◌}
use Rattle.words.proofs.XorLaws.{xor, odd, bit_lt, bit_over, bit_times, ⊕-half, ⊕-mod, ⊕-zero-l}
use Rattle.words.proofs.Additive.{Additive, additive_zero, additive_bit}
use Rattle.ghash.specs.Field.{R, times_x, product}
use Rattle.ghash.specs.Laws.{one}
use Rattle.ghash.proofs.Product.{added, added_none, added_more, product_added, product_one, product_lt, times_x_lt, added_lt}

-- ---- maps that commute with products

module _ (f : ℕ → ℕ) (add : Additive 128 f) (x_commutes : (v : ℕ) → v < 2 ^ 128 → f (times_x v) ≡ times_x (f v)) where
  commutes_added : (n x v : ℕ) → v < 2 ^ 128 → f (added n x v) ≡ added n x (f v)
  commutes_added zero x v h = ap f (added_none x v) ∙ additive_zero 128 f add ∙ sym (added_none x (f v))
  commutes_added (suc n) x v h =
      let b = x / 2 ^ n % 2 in
      let hb : b < 2 = odd (x / 2 ^ n) in
      let hv = times_x_lt v h in
      ap f (added_more n x v) ∙ add (b * v) (added n x (times_x v)) (bit_lt (2 ^ 128) v b h hb) (added_lt n x (times_x v) hv)
      ∙ ap₂ ◌⊕◌ (additive_bit 128 f add b v hb) (commutes_added n x (times_x v) hv ∙ ap (added n x) (x_commutes v h)) ∙ sym (added_more n x (f v))

  pub commutes : (x y : ℕ) → y < 2 ^ 128 → f (product x y) ≡ product x (f y)
  commutes x y h = ap f (product_added x y) ∙ commutes_added 128 x y h ∙ sym (product_added x (f y))

-- ---- linear in Y

times_x_xor : (v w : ℕ) → times_x (v ⊕ w) ≡ times_x v ⊕ times_x w
unfolding times_x
times_x_xor v w = rw (⊕-half v w, ⊕-mod v w 1, bit_times R (v % 2) (w % 2) (odd v) (odd w)) (simp xor)

added_xor_right : (n x v w : ℕ) → added n x (v ⊕ w) ≡ added n x v ⊕ added n x w
added_xor_right zero x v w = rw (added_none x (v ⊕ w), added_none x v, added_none x w) (sym (⊕-zero-l 0))
added_xor_right (suc n) x v w =
    rw (
      added_more n x (v ⊕ w),
      added_more n x v,
      added_more n x w,
      bit_over (x / 2 ^ n % 2) v w (odd (x / 2 ^ n)),
      times_x_xor v w,
      added_xor_right n x (times_x v) (times_x w),
    ) (simp xor)

pub product_xor_right : (x v w : ℕ) → product x (v ⊕ w) ≡ product x v ⊕ product x w
product_xor_right x v w = rw (product_added x (v ⊕ w), product_added x v, product_added x w) (added_xor_right 128 x v w)

pub product_zero_right : (x : ℕ) → product x 0 ≡ 0
product_zero_right x = additive_zero 128 (product x) (λ v w hv hw. product_xor_right x v w)

-- ---- products change places

pub product_times_x : (x v : ℕ) → v < 2 ^ 128 → product x (times_x v) ≡ times_x (product x v)
product_times_x x v h = sym (commutes times_x (λ a b ha hb. times_x_xor a b) (λ u hu. refl) x v h)

pub product_left : (x y z : ℕ) → z < 2 ^ 128 → product x (product y z) ≡ product y (product x z)
product_left x y z h = commutes (product x) (λ a b ha hb. product_xor_right x a b) (product_times_x x) y z h

pub product_comm : (x y : ℕ) → x < 2 ^ 128 → y < 2 ^ 128 → product x y ≡ product y x
product_comm x y hx hy = ap (product x) (sym (product_one y hy)) ∙ product_left x y one (lit< tt) ∙ ap (product y) (product_one x hx)

pub product_assoc : (x y z : ℕ) → x < 2 ^ 128 → y < 2 ^ 128 → z < 2 ^ 128 → product (product x y) z ≡ product x (product y z)
product_assoc x y z hx hy hz =
    product_comm (product x y) z (product_lt x y hy) hz ∙ product_left z x y hy ∙ ap (product x) (product_comm z y hz hy)
