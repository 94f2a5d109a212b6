-- `wide_round::table` meets its contract: one test that antt computes over the whole table.
use Rattle.words.specs.Xor.{◌⊕◌}
use Rattle.words.specs.Bytes.{number}
use Rattle.aes.specs.Field.{xtime, mul_bits, gmul, square, pow_ones, inverse, rotated, affine, sub}
use Rattle.aes.proofs.Tests.{holds}
use Rattle.wide_round.specs.Wide.{wide}
use Rattle.wide_round.proofs.table.Goals as goal

pub returns : goal.returns
unfolding xtime mul_bits gmul square pow_ones inverse rotated affine sub wide number ◌⊕◌
returns c = holds wide _ tt
