-- `aes::sbox` meets its contract: one test that antt computes over the whole table.
use Rattle.words.specs.Xor.{◌⊕◌}
use Rattle.aes.specs.Field.{xtime, mul_bits, gmul, square, pow_ones, inverse, rotated, affine, sub}
use Rattle.aes.proofs.Tests.{holds}
use Rattle.aes.proofs.sbox.Goals as goal

pub returns : goal.returns
unfolding xtime mul_bits gmul square pow_ones inverse rotated affine sub ◌⊕◌
returns c = holds sub _ tt
