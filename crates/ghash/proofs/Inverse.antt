-- The blocks are a field: every block but zero has an inverse, so a product is zero only where a factor is. A block a has the multiple
-- e = a ^ (2 ^ 128 - 1), for which a • e is a ^ (2 ^ 128), which is a; so e • e = e, and the only such e are 0 and 1. If e is 0, so is a • e = a; if
-- e is 1, the power before it is a's inverse.
use mathlib.Core.Path.{◌≡◌, refl, sym, ap, ◌∙◌}
use mathlib.Core.Logic.{◌⊎◌, inl, inr}
use mathlib.Core.List.{List, [], ◌∷◌}
use Prim.Native.Nat.{ℕ, zero, suc, ◌+◌, ◌*◌, ◌/◌, ◌%◌, ◌^◌, ◌<◌, ◌≤◌}
use native.Mathlib.Nat.{le_of_lt}
use native.Mathlib.Decide.{ℕ_discrete}
use native.Mathlib.Omega.{arith}
use lib.Dec.{T, eqb→eq, lit<}
use lib.Pow.{pow-lt, shr_lt, split}
use Rattle.words.specs.Xor.{◌⊕◌}
use Rattle.words.proofs.Tests.{both_left, both_right}
use Rattle.words.proofs.XorLaws.{xor, bit, bit_sum, ⊕-self, ⊕-zero-l, ⊕-mod}
use Rattle.words.proofs.Additive.{Additive, additive_zero, additive_agree}
use Rattle.ghash.specs.Field.{times_x, product}
use Rattle.ghash.specs.Laws.{one}
use Rattle.ghash.proofs.Product.{times_x_half, product_zero, product_one, product_lt}
use Rattle.ghash.proofs.Ring.{product_left, product_comm, product_assoc, product_zero_right}
use Rattle.ghash.proofs.Squares.{combine, walk, table, undoes, undoes_all}
use Rattle.ghash.proofs.Squaring.{square, square_add, square_times_x, square_product, squared, squared_out, squared_back}

-- ---- a ^ (2 ^ n - 1)

pow_ones : (n a : ℕ) → ℕ
pow_ones zero a = one
pow_ones (suc n) a = product a (square (pow_ones n a))

pow_ones_lt : (n a : ℕ) → pow_ones n a < 2 ^ 128
unfolding pow_ones
pow_ones_lt zero a = lit< tt
pow_ones_lt (suc n) a = product_lt a (square (pow_ones n a)) (product_lt (pow_ones n a) (pow_ones n a) (pow_ones_lt n a))

pow_ones_more : (n a : ℕ) → pow_ones (suc n) a ≡ product a (square (pow_ones n a))
unfolding pow_ones
pow_ones_more n a = refl

pow_ones_back : (n a : ℕ) → a < 2 ^ 128 → product a (pow_ones n a) ≡ squared n a
unfolding pow_ones squared
pow_ones_back zero a h = product_one a h
pow_ones_back (suc n) a h =
    sym (product_assoc a a (square (pow_ones n a)) h h (product_lt (pow_ones n a) (pow_ones n a) (pow_ones_lt n a)))
    ∙ sym (square_product a (pow_ones n a) h (pow_ones_lt n a)) ∙ ap square (pow_ones_back n a h) ∙ squared_out n a

-- ---- the table takes e² ⊕ e to e, but for the leftmost bit

combine_more : (n l : ℕ) (ls : List ℕ) (x : ℕ) → combine (suc n) (l ∷ ls) x ≡ (x / 2 ^ n % 2) * l ⊕ combine n ls x
unfolding combine
combine_more n l ls x = refl

combine_end : (ls : List ℕ) (x : ℕ) → combine 0 ls x ≡ 0
unfolding combine
combine_end ls x = refl

combine_short : (n x : ℕ) → combine (suc n) [] x ≡ 0
unfolding combine
combine_short n x = refl

combine_add : (n : ℕ) (ls : List ℕ) (x y : ℕ) → combine n ls (x ⊕ y) ≡ combine n ls x ⊕ combine n ls y
combine_add zero ls x y = rw (combine_end ls (x ⊕ y), combine_end ls x, combine_end ls y) (sym (⊕-zero-l 0))
combine_add (suc n) [] x y = rw (combine_short n (x ⊕ y), combine_short n x, combine_short n y) (sym (⊕-zero-l 0))
combine_add (suc n) (l ∷ ls) x y =
    rw (combine_more n l ls (x ⊕ y), combine_more n l ls x, combine_more n l ls y, bit_sum x y n l, combine_add n ls x y) (simp xor)

walk_at : (f : ℕ → ℕ → _) (n : ℕ) → n < 128 → T (walk f (suc n) (square (2 ^ n))) → (k : ℕ) → k ≤ n → T (f k (square (2 ^ k)))
unfolding walk
walk_at f zero h t k l =
    let e : k ≡ 0 = omega arith in
    rw e (both_left (f 0 (square (2 ^ 0))) _ t)
walk_at f (suc m) h t k l =
    let next = walk f (suc m) (times_x (times_x (square (2 ^ suc m)))) in
    let down : times_x (times_x (square (2 ^ suc m))) ≡ square (2 ^ m) = sym (square_times_x (2 ^ suc m) (pow-lt h)) ∙ ap square (times_x_half m) in
    go (both_left (f (suc m) (square (2 ^ suc m))) next t) (walk_at f m (le_of_lt h) (rw down at (both_right (f (suc m) (square (2 ^ suc m))) next t)) k) (ℕ_discrete k (suc m))
  where
    go : T (f (suc m) (square (2 ^ suc m))) → (k ≤ m → T (f k (square (2 ^ k)))) → Dec (k ≡ suc m) → T (f k (square (2 ^ k)))
    go here below (yes e) = rw e here
    go here below (no e) = below (omega arith)

undoes_is : (k s : ℕ) → T (undoes k s) → combine 128 table (s ⊕ 2 ^ k) ≡ 2 ^ k % 2 ^ 127
unfolding undoes
undoes_is k s t = eqb→eq (combine 128 table (s ⊕ 2 ^ k)) (2 ^ k % 2 ^ 127) t

undone : (y : ℕ) → y < 2 ^ 128 → combine 128 table (square y ⊕ y) ≡ y % 2 ^ 127
undone = additive_agree 128 (λ y. combine 128 table (square y ⊕ y)) (λ y. y % 2 ^ 127) fa (λ x y hx hy. ⊕-mod x y 127) at_bit
  where
    fa : Additive 128 (λ y. combine 128 table (square y ⊕ y))
    fa x y hx hy =
        ap (combine 128 table) (let e : square (x ⊕ y) ⊕ (x ⊕ y) ≡ (square x ⊕ x) ⊕ (square y ⊕ y) = rw (square_add x y hx hy) (simp xor) in e)
        ∙ combine_add 128 table (square x ⊕ x) (square y ⊕ y)

    at_bit : (k : ℕ) → k < 128 → combine 128 table (square (2 ^ k) ⊕ 2 ^ k) ≡ 2 ^ k % 2 ^ 127
    at_bit k h = undoes_is k (square (2 ^ k)) (walk_at undoes 127 (lit< tt) (rw (product_one one (lit< tt)) undoes_all) k (omega arith))

-- ---- the blocks that are their own squares

own_square : (e : ℕ) → e < 2 ^ 128 → square e ≡ e → (e ≡ 0) ⊎ (e ≡ one)
own_square e h s = go (e / 2 ^ 127) (shr_lt 1 127 h) parts
  where
    low : e % 2 ^ 127 ≡ 0
    low =
        sym (undone e h) ∙ ap (λ (m : ℕ). combine 128 table (m ⊕ e)) s ∙ ap (combine 128 table) (⊕-self e)
        ∙ additive_zero 128 (combine 128 table) (λ x y hx hy. combine_add 128 table x y)

    parts : e ≡ e / 2 ^ 127 * 2 ^ 127 + 0
    parts = sym (split e 127) ∙ ap (λ (m : ℕ). e / 2 ^ 127 * 2 ^ 127 + m) low

    go : (q : ℕ) → q < 2 → e ≡ q * 2 ^ 127 + 0 → (e ≡ 0) ⊎ (e ≡ one)
    go q l = bit (λ q. e ≡ q * 2 ^ 127 + 0 → (e ≡ 0) ⊎ (e ≡ one)) q l inl inr

-- ---- inverses

-- a ^ (2 ^ 128 - 2)
abbrev inverse : ℕ → ℕ
inverse a = square (pow_ones 127 a)

inverse_lt : (a : ℕ) → inverse a < 2 ^ 128
inverse_lt a = product_lt (pow_ones 127 a) (pow_ones 127 a) (pow_ones_lt 127 a)

-- every block but zero has one
inverse_is : (a : ℕ) → a < 2 ^ 128 → (a ≡ 0) ⊎ (product a (inverse a) ≡ one)
inverse_is a h = go (own_square e (pow_ones_lt 128 a) idem)
  where
    e : ℕ
    e = pow_ones 128 a

    e_is : e ≡ product a (inverse a)
    e_is = pow_ones_more 127 a

    kept : product a e ≡ a
    kept = pow_ones_back 128 a h ∙ squared_back a h

    idem : square e ≡ e
    idem =
        ap (λ (m : ℕ). product m e) e_is ∙ product_assoc a (inverse a) e h (inverse_lt a) (pow_ones_lt 128 a)
        ∙ product_left a (inverse a) e (pow_ones_lt 128 a) ∙ ap (product (inverse a)) kept ∙ product_comm (inverse a) a (inverse_lt a) h ∙ sym e_is

    go : (e ≡ 0) ⊎ (e ≡ one) → (a ≡ 0) ⊎ (product a (inverse a) ≡ one)
    go (inl q) = inl (sym kept ∙ ap (product a) q ∙ product_zero_right a)
    go (inr q) = inr (sym e_is ∙ q)

pub inverses : (a : ℕ) → a < 2 ^ 128 → ¬ (a ≡ 0) → (b : ℕ) × (b < 2 ^ 128) × (product a b ≡ one)
inverses a h n = go (inverse_is a h)
  where
    go : (a ≡ 0) ⊎ (product a (inverse a) ≡ one) → (b : ℕ) × (b < 2 ^ 128) × (product a b ≡ one)
    go (inl z) = absurd (n z)
    go (inr e) = (inverse a, inverse_lt a, e)

-- ---- no zero divisors

pub no_zero_divisors : (a b : ℕ) → a < 2 ^ 128 → b < 2 ^ 128 → product a b ≡ 0 → (a ≡ 0) ⊎ (b ≡ 0)
no_zero_divisors a b ha hb z = go (inverse_is a ha)
  where
    go : (a ≡ 0) ⊎ (product a (inverse a) ≡ one) → (a ≡ 0) ⊎ (b ≡ 0)
    go (inl q) = inl q
    go (inr q) =
        inr (sym (product_one b hb) ∙ ap (product b) (sym q) ∙ product_left b a (inverse a) (inverse_lt a)
        ∙ sym (product_assoc a b (inverse a) ha hb (inverse_lt a)) ∙ ap (λ (m : ℕ). product m (inverse a)) z ∙ product_zero (inverse a))
