-- Worked examples of FIPS 197: the product of section 4.2, and round 1 of the cipher example of appendix B, before the key is added, forth and
-- back.
use mathlib.Core.Path.{◌≡◌, refl}
use mathlib.Core.List.{List, [], ◌∷◌}
use Prim.Native.Nat.{ℕ}
use Rattle.words.specs.Xor.{◌⊕◌}
use Rattle.aes.specs.Field.{xtime, mul_bits, gmul, square, pow_ones, inverse, rotated, affine, sub}
use Rattle.aes.specs.Unround.{unaffine, unsub, unround}
use Rattle.aes.specs.Round.{gathered, dot, mix_by, round}

product : gmul 0x57 0x13 ≡ 0xfe
unfolding xtime mul_bits gmul ◌⊕◌
product = refl

abbrev before : List ℕ
before = 0x19 ∷ 0x3d ∷ 0xe3 ∷ 0xbe ∷ 0xa0 ∷ 0xf4 ∷ 0xe2 ∷ 0x2b ∷ 0x9a ∷ 0xc6 ∷ 0x8d ∷ 0x2a ∷ 0xe9 ∷ 0xf8 ∷ 0x48 ∷ 0x08 ∷ []

abbrev after : List ℕ
after = 0x04 ∷ 0x66 ∷ 0x81 ∷ 0xe5 ∷ 0xe0 ∷ 0xcb ∷ 0x19 ∷ 0x9a ∷ 0x48 ∷ 0xf8 ∷ 0xd3 ∷ 0x7a ∷ 0x28 ∷ 0x06 ∷ 0x26 ∷ 0x4c ∷ []

forth : round before ≡ after
unfolding xtime mul_bits gmul square pow_ones inverse rotated affine sub gathered dot mix_by round ◌⊕◌
forth = refl

back : unround after ≡ before
unfolding xtime mul_bits gmul square pow_ones inverse rotated unaffine unsub gathered dot mix_by unround ◌⊕◌
back = refl
