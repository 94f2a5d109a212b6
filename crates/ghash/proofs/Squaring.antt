-- Squaring takes xor to xor and products to products, so that it is one linear map, whose rows are 1, x², x⁴ and so on; and 128 squarings leave
-- every block as it was, since they do so for x.
use mathlib.Core.Path.{◌≡◌, refl, sym, ap, ap₂, ◌∙◌}
use Prim.Native.Nat.{ℕ, zero, suc, ◌*◌, ◌/◌, ◌%◌, ◌^◌, ◌<◌}
use lib.Dec.{lit<}
use Rattle.words.specs.Xor.{◌⊕◌}
use Rattle.words.proofs.XorLaws.{xor, odd, bit_lt}
use Rattle.words.proofs.Additive.{Additive, additive_zero, additive_bit}
use Rattle.ghash.specs.Field.{times_x, product}
use Rattle.ghash.specs.Laws.{one}
use Rattle.ghash.proofs.Product.{times_x_half, added, added_none, added_more, product_added, product_xor, product_one, product_lt, times_x_lt, added_lt}
use Rattle.ghash.proofs.Ring.{commutes, product_xor_right, product_times_x, product_left, product_comm, product_assoc}
use Rattle.ghash.proofs.Squares.{combine, rows, iter, comes_back}

abbrev pub square : ℕ → ℕ
square a = product a a

pub square_add : Additive 128 square
square_add a b ha hb =
    rw (product_xor a b (a ⊕ b), product_xor_right a a b, product_xor_right b a b, product_comm b a hb ha) (simp xor)

pub square_times_x : (v : ℕ) → v < 2 ^ 128 → square (times_x v) ≡ times_x (times_x (square v))
square_times_x v h = product_times_x (times_x v) v h ∙ ap times_x (product_comm (times_x v) v (times_x_lt v h) h ∙ product_times_x v v h)

pub square_product : (a b : ℕ) → a < 2 ^ 128 → b < 2 ^ 128 → square (product a b) ≡ product (square a) (square b)
square_product a b ha hb =
    product_assoc a b (product a b) ha hb (product_lt a b hb)
    ∙ ap (product a) (product_left b a b hb) ∙ sym (product_assoc a a (square b) ha ha (product_lt b b hb))

-- ---- the square of a block, by the rows

square_added : (n x v : ℕ) → v < 2 ^ 128 → square (added n x v) ≡ combine n (rows n (square v)) x
unfolding combine rows
square_added zero x v h = ap square (added_none x v) ∙ additive_zero 128 square square_add
square_added (suc n) x v h =
    let b = x / 2 ^ n % 2 in
    let hb : b < 2 = odd (x / 2 ^ n) in
    let hv = times_x_lt v h in
    ap square (added_more n x v) ∙ square_add (b * v) (added n x (times_x v)) (bit_lt (2 ^ 128) v b h hb) (added_lt n x (times_x v) hv)
    ∙ ap₂ ◌⊕◌ (additive_bit 128 square square_add b v hb)
    (square_added n x (times_x v) hv ∙ ap (λ (r : ℕ). combine n (rows n r) x) (square_times_x v h))

square_rows : (a : ℕ) → a < 2 ^ 128 → combine 128 (rows 128 one) a ≡ square a
square_rows a h =
    ap (λ (r : ℕ). combine 128 (rows 128 r) a) (sym (product_one one (lit< tt))) ∙ sym (square_added 128 a one (lit< tt))
    ∙ ap square (sym (product_added a one) ∙ product_one a h)

-- ---- n squarings

unfoldable pub squared : (n a : ℕ) → ℕ
squared zero a = a
squared (suc n) a = squared n (square a)

squared_lt : (n a : ℕ) → a < 2 ^ 128 → squared n a < 2 ^ 128
unfolding squared
squared_lt zero a h = h
squared_lt (suc n) a h = squared_lt n (square a) (product_lt a a h)

squared_add : (n : ℕ) → Additive 128 (squared n)
unfolding squared
squared_add zero a b ha hb = refl
squared_add (suc n) a b ha hb = ap (squared n) (square_add a b ha hb) ∙ squared_add n (square a) (square b) (product_lt a a ha) (product_lt b b hb)

squared_product : (n a b : ℕ) → a < 2 ^ 128 → b < 2 ^ 128 → squared n (product a b) ≡ product (squared n a) (squared n b)
unfolding squared
squared_product zero a b ha hb = refl
squared_product (suc n) a b ha hb =
    ap (squared n) (square_product a b ha hb) ∙ squared_product n (square a) (square b) (product_lt a a ha) (product_lt b b hb)

squared_iter : (n a : ℕ) → a < 2 ^ 128 → iter n (rows 128 one) a ≡ squared n a
unfolding squared iter
squared_iter zero a h = refl
squared_iter (suc n) a h = ap (iter n (rows 128 one)) (square_rows a h) ∙ squared_iter n (square a) (product_lt a a h)

squared_one : (n : ℕ) → squared n one ≡ one
unfolding squared
squared_one zero = refl
squared_one (suc n) = ap (squared n) (product_one one (lit< tt)) ∙ squared_one n

pub squared_out : (n a : ℕ) → square (squared n a) ≡ squared n (square a)
unfolding squared
squared_out zero a = refl
squared_out (suc n) a = squared_out n (square a)

-- ---- 128 of them

-- timesX is the product by x
by_x : (v : ℕ) → v < 2 ^ 128 → times_x v ≡ product (2 ^ 126) v
by_x v h =
    ap times_x (sym (product_one v h)) ∙ sym (product_times_x v one (lit< tt)) ∙ ap (product v) (times_x_half 126)
    ∙ product_comm v (2 ^ 126) h (lit< tt)

x_back : squared 128 (2 ^ 126) ≡ 2 ^ 126
x_back = sym (squared_iter 128 (2 ^ 126) (lit< tt)) ∙ comes_back

x_commutes : (v : ℕ) → v < 2 ^ 128 → squared 128 (times_x v) ≡ times_x (squared 128 v)
x_commutes v h =
    ap (squared 128) (by_x v h) ∙ squared_product 128 (2 ^ 126) v (lit< tt) h
    ∙ ap (λ (m : ℕ). product m (squared 128 v)) x_back ∙ sym (by_x (squared 128 v) (squared_lt 128 v h))

pub squared_back : (a : ℕ) → a < 2 ^ 128 → squared 128 a ≡ a
squared_back a h =
    ap (squared 128) (sym (product_one a h)) ∙ commutes (squared 128) (squared_add 128) x_commutes a one (lit< tt)
    ∙ ap (product a) (squared_one 128) ∙ product_one a h
