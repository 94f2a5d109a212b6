-- The S-box and its inverse undo each other on bytes, since the field's inverse is its own inverse and the two affine maps undo each
-- other: three tests over the 256 bytes. And the field's inverse is one: a byte but 0 times it is 1.
use mathlib.Core.Path.{◌≡◌, ap, ◌∙◌}
use Prim.Native.Nat.{ℕ, zero, suc, ◌<◌}
use lib.Dec.{lit<, eqb, eqb→eq}
use Rattle.words.specs.Xor.{◌⊕◌}
use Rattle.aes.specs.Field.{xtime, mul_bits, gmul, square, pow_ones, inverse, rotated, affine, sub}
use Rattle.aes.specs.Unround.{unaffine, unsub}
use Rattle.words.proofs.Tests.{below}
use Rattle.aes.proofs.Tests.{each, each_lt}
use Rattle.aes.proofs.Products.{gmul_lt}

-- what `inverse` is: each byte but 0 times it is 1
pub inverse_is : (x : ℕ) → x < 255 → gmul (suc x) (inverse (suc x)) ≡ 1
unfolding xtime mul_bits gmul square pow_ones inverse ◌⊕◌
inverse_is x h = eqb→eq (gmul (suc x) (inverse (suc x))) 1 (below (λ y. eqb (gmul (suc y) (inverse (suc y))) 1) 255 tt x h)

inverse_inverse : (b : ℕ) → b < 256 → inverse (inverse b) ≡ b
unfolding xtime mul_bits gmul square pow_ones inverse ◌⊕◌
inverse_inverse = each (λ b. inverse (inverse b)) (λ b. b) tt

unaffine_affine : (b : ℕ) → b < 256 → unaffine (affine b) ≡ b
unfolding rotated affine unaffine ◌⊕◌
unaffine_affine = each (λ b. unaffine (affine b)) (λ b. b) tt

affine_unaffine : (b : ℕ) → b < 256 → affine (unaffine b) ≡ b
unfolding rotated affine unaffine ◌⊕◌
affine_unaffine = each (λ b. affine (unaffine b)) (λ b. b) tt

affine_lt : (b : ℕ) → b < 256 → affine b < 256
unfolding rotated affine ◌⊕◌
affine_lt = each_lt affine tt

unaffine_lt : (b : ℕ) → b < 256 → unaffine b < 256
unfolding rotated unaffine ◌⊕◌
unaffine_lt = each_lt unaffine tt

pow_ones_lt : (n b : ℕ) → pow_ones n b < 256
unfolding pow_ones square
pow_ones_lt zero b = lit< tt
pow_ones_lt (suc n) b = gmul_lt b (square (pow_ones n b)) (gmul_lt (pow_ones n b) (pow_ones n b) (pow_ones_lt n b))

inverse_lt : (b : ℕ) → inverse b < 256
unfolding inverse square
inverse_lt b = gmul_lt (pow_ones 7 b) (pow_ones 7 b) (pow_ones_lt 7 b)

-- ---- the S-box

pub sub_lt : (b : ℕ) → sub b < 256
unfolding sub
sub_lt b = affine_lt (inverse b) (inverse_lt b)

pub unsub_lt : (b : ℕ) → unsub b < 256
unfolding unsub
unsub_lt b = inverse_lt (unaffine b)

pub unsub_sub : (b : ℕ) → b < 256 → unsub (sub b) ≡ b
unfolding sub unsub
unsub_sub b h = ap inverse (unaffine_affine (inverse b) (inverse_lt b)) ∙ inverse_inverse b h

pub sub_unsub : (b : ℕ) → b < 256 → sub (unsub b) ≡ b
unfolding sub unsub
sub_unsub b h = ap affine (inverse_inverse (unaffine b) (unaffine_lt b h)) ∙ affine_unaffine b h
