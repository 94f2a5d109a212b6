-- A tag is 16 bytes long whatever the key and the IV hold: the hash is a block, and so is what a step of the cipher gives.
use mathlib.Core.Path.{◌≡◌, refl, sym, ap, ◌∙◌}
use mathlib.Core.List.{List, ◌++◌}
use Prim.Native.Nat.{ℕ, ◌*◌}
use lib.ListN.{length}
use Rattle.words.specs.Xor.{pointwise}
use Rattle.words.specs.Bytes.{zeros, numbers}
use Rattle.words.specs.Sums.{◌⊞◌, add32}
use Rattle.words.proofs.Rows.{zeros_block, pointwise_length, xors_length}
use Rattle.words.proofs.Bytes.{littles_long, numbers_long}
use Rattle.aes.specs.Round.{gathered, mix_by, round}
use Rattle.ghash.specs.Hash.{lengths, padded, ghash}
use Rattle.ghash.proofs.Hashing.{hash_from_block}
use Rattle.cipher.specs.Registers.{Registers}
use Rattle.cipher.specs.Step.{T1, z, step}
use Rattle.cipher.specs.Run.{move, moves}
use Rattle.start.specs.Start.{Mode.sealed, start, sealed_keystream}
use Rattle.page.specs.Page.{tag_for}

sum_long : (x y : List ℕ) → length (x ⊞ y) ≡ 16
unfolding ◌⊞◌
sum_long x y =
    littles_long 4 (pointwise add32 (numbers 4 4 x) (numbers 4 4 y))
    ∙ ap (λ (n : ℕ). n * 4) (pointwise_length add32 (numbers 4 4 x) (numbers 4 4 y) (numbers_long 4 4 x ∙ sym (numbers_long 4 4 y)) ∙ numbers_long 4 4 x)

round_long : (x : List ℕ) → length (round x) ≡ 16
unfolding round mix_by gathered
round_long x = refl

stepped_long : (s : Registers) → length (z (step s)) ≡ 16
unfolding z step
stepped_long s =
    xors_length ((step s).r1 ⊞ T1 (step s)) (round s.r1) (sum_long (step s).r1 (T1 (step s)) ∙ sym (round_long s.r1))
    ∙ sum_long (step s).r1 (T1 (step s))

pad_long : (key iv : List ℕ) → length (sealed_keystream key iv 1) ≡ 16
unfolding moves move
pad_long key iv = stepped_long (start key iv sealed)

pub tag_long : (key iv d c : List ℕ) → length (tag_for key iv d c) ≡ 16
unfolding tag_for
tag_long key iv d c =
    let l : List ℕ = padded d ++ padded c ++ lengths (length d) (length c) in
    let h : length (ghash (sealed_keystream key iv 0) l) ≡ 16 = (hash_from_block (sealed_keystream key iv 0) zeros l zeros_block).long in
    xors_length (ghash (sealed_keystream key iv 0) l) (sealed_keystream key iv 1) (h ∙ sym (pad_long key iv)) ∙ h
