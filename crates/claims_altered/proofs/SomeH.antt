-- The claims are of something: the key of 32 zeros and the IV of 16 have an H that is not zero, as antt computes from the paper's definitions.
use mathlib.Core.Path.{◌≡◌, refl, sym, ap, ◌∙◌}
use mathlib.Core.Bool.{false, true≢false}
use Prim.Native.Nat.{ℕ}
use mathlib.Core.List.{List}
use lib.ListN.{replicate}
use Rattle.words.specs.Xor.{◌⊕◌, xors}
use Rattle.words.specs.Bytes.{little, number, littles, numbers, zeros, same}
use Rattle.words.specs.Sums.{◌⊞◌}
use Rattle.words.proofs.Tests.{same_refl}
use Rattle.lfsr.specs.Cells.{times, over}
use Rattle.lfsr.specs.Clock.{clock, clocks}
use Rattle.aes.specs.Field.{xtime, mul_bits, gmul, square, pow_ones, inverse, rotated, affine, sub}
use Rattle.aes.specs.Round.{gathered, dot, mix_by, round}
use Rattle.cipher.specs.Step.{T1, T2, sigma, z, step}
use Rattle.cipher.specs.Run.{move, moves}
use Rattle.start.specs.Start.{load, into_a, into_r1, initial, initials, start, sealed_keystream}

other : same (sealed_keystream (replicate 32 0) (replicate 16 0) 0) zeros ≡ false
unfolding times over ◌⊕◌ clock clocks xtime mul_bits gmul square pow_ones inverse rotated affine sub gathered dot mix_by round moves move step z T1 T2 sigma ◌⊞◌ littles numbers little number xors load into_a into_r1 initial initials start same
other = refl

pub some_h : ¬ (sealed_keystream (replicate 32 0) (replicate 16 0) 0 ≡ zeros)
some_h e = true≢false (sym (same_refl zeros) ∙ ap (λ (l : List ℕ). same l zeros) (sym e) ∙ other)
