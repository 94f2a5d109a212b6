-- The starred cases hold: the worked ones compute, and the two that speak of every block and every key follow from the laws of ⊞.
use mathlib.Core.Path.{◌≡◌, refl, ap, ap₂, ◌∙◌}
use mathlib.Core.List.{List, [], ◌∷◌, ◌++◌}
use Prim.Native.Nat.{ℕ, zero, suc, ◌^◌, ◌<◌}
use native.Mathlib.Omega.{arith}
use lib.Dec.{lit<}
use lib.ListN.{length, get_or, drop, replicate}
use lib.Seq.{drop_at}
use Rattle.words.specs.Xor.{◌⊕◌, pointwise, xors}
use Rattle.words.specs.Bytes.{Row, IsBlock, little, number, littles, numbers, zeros}
use Rattle.words.specs.Sums.{add32, ◌⊞◌}
use Rattle.words.proofs.Rows.{xors_comm, xors_zeros}
use Rattle.words.proofs.Bytes.{littles_numbers, numbers_littles}
use Rattle.words.proofs.Sums.{words_of}
use Rattle.words.proofs.Blocks.{four, row_four}
use Rattle.lfsr.specs.Cells.{times, over}
use Rattle.lfsr.specs.Clock.{clock, clocks}
use Rattle.lfsr.specs.Unclock.{shl, spread, solve, old_a, old_b, unclock}
use Rattle.aes.specs.Field.{xtime, mul_bits, gmul, square, pow_ones, inverse, rotated, affine, sub}
use Rattle.aes.specs.Round.{gathered, dot, mix_by, round}
use Rattle.ghash.specs.Hash.{big, bigs, ◌•◌, eat, eats, blocks_of, hash_from}
use Rattle.ghash.proofs.Product.{product_zero}
use Rattle.ghash.proofs.Cases.{one_is, rightmost_is}
use Rattle.page.specs.Page.{encrypted, tag_for, page_tag}
use Rattle.page.proofs.Ciphertext.{stream_block}
use Rattle.cases.proofs.DatesShown.{kept_28_february, not_kept_1_march}
use Rattle.cipher.specs.Step.{T1, T2, sigma, z, step}
use Rattle.cipher.specs.Run.{move, made, moves, zs}
use Rattle.start.specs.Start.{Mode, mode_cells, load, sealed_keystream}
use Rattle.start.proofs.Undo.{mode_row, high}
use Rattle.cases.specs.Starred.{All, starred}

no_carry : (b c d : ℕ) → b < 2 ^ 32 → c < 2 ^ 32 → d < 2 ^ 32
    → littles 4 (0xffffffff ∷ b ∷ c ∷ d ∷ []) ⊞ littles 4 (1 ∷ 0 ∷ 0 ∷ 0 ∷ []) ≡ littles 4 (0 ∷ b ∷ c ∷ d ∷ [])
unfolding ◌⊞◌
no_carry b c d hb hc hd =
    ap₂ (λ (s t : List ℕ). littles 4 (pointwise add32 s t)) (numbers_littles 4 4 _ (row_four 0xffffffff b c d (lit< tt) hb hc hd))
    (numbers_littles 4 4 _ (row_four 1 0 0 0 (lit< tt) (lit< tt) (lit< tt) (lit< tt)))
    ∙ ap (littles 4) (four refl (omega arith) (omega arith) (omega arith))

-- a zero block adds nothing
zero_sum : (n : ℕ) (w : List ℕ) → length w ≡ n → ((i : ℕ) → get_or w i 0 < 2 ^ 32) → pointwise add32 (replicate n 0) w ≡ w
zero_sum zero [] e h = refl
zero_sum zero (b ∷ w) e h = absurd (omega arith)
zero_sum (suc n) [] e h = absurd (omega arith)
zero_sum (suc n) (b ∷ w) e h = ap₂ (λ (x : ℕ) (l : List ℕ). x ∷ l) (omega (arith, h 0)) (zero_sum n w (omega arith) (λ i. h (suc i)))

zero_words : numbers 4 4 zeros ≡ replicate 4 0
unfolding numbers number
zero_words = refl

first_z : (key iv : List ℕ) (m : Mode) → Row 32 256 key → z (load key iv m) ≡ drop 16 key
unfolding z T1 load ◌⊞◌
first_z key iv m k =
    let h : IsBlock (drop 16 key) = high key k in
    let b : littles 2 (drop 8 (mode_cells m ++ numbers 2 8 (drop 16 key))) ≡ drop 16 key =
    ap (littles 2) (drop_at (mode_cells m) (numbers 2 8 (drop 16 key)) 8 (mode_row m).long) ∙ littles_numbers 2 8 (drop 16 key) h in
    ap (λ (t : List ℕ). xors (littles 4 (pointwise add32 (numbers 4 4 zeros) (numbers 4 4 t))) zeros) b
    ∙ ap (λ (w : List ℕ). xors (littles 4 w) zeros)
    (ap (λ (v : List ℕ). pointwise add32 v (numbers 4 4 (drop 16 key))) zero_words ∙ zero_sum 4 (numbers 4 4 (drop 16 key)) (words_of h).long (words_of h).below)
    ∙ ap (λ (t : List ℕ). xors t zeros) (littles_numbers 4 4 (drop 16 key) h) ∙ xors_zeros 16 (drop 16 key) h.long

-- ---- with no data and no text one block of zeros is hashed, and zero times H is zero

zero_times : (h : List ℕ) → zeros • h ≡ zeros
unfolding ◌•◌ big bigs
zero_times h = ap (bigs 16) (product_zero (big h))

nothing_hashed : (key iv : List ℕ) → page_tag key iv [] [] ≡ xors zeros (sealed_keystream key iv 1)
unfolding tag_for encrypted bigs hash_from blocks_of eats eat xors ◌⊕◌
nothing_hashed key iv = ap (λ (y : List ℕ). xors y (sealed_keystream key iv 1)) (zero_times (sealed_keystream key iv 0))

empty_page : (key iv : List ℕ) → Row 32 256 key → IsBlock iv → page_tag key iv [] [] ≡ sealed_keystream key iv 1
empty_page key iv k v =
    nothing_hashed key iv ∙ xors_comm zeros (sealed_keystream key iv 1) ∙ xors_zeros 16 (sealed_keystream key iv 1) (stream_block key iv k v 1).long

-- the list holds, every entry of it
pub shown : All starred
unfolding times over ◌⊕◌ clock clocks unclock old_a old_b solve spread shl xtime mul_bits gmul square pow_ones inverse rotated affine sub gathered dot mix_by round zs moves move made step z T1 T2 sigma ◌⊞◌ littles numbers little number xors
shown = (refl, (refl, (refl, (refl, (refl, (refl, (refl, (refl, (no_carry, (one_is, (rightmost_is, (first_z, (empty_page, (kept_28_february, (not_kept_1_march, tt)))))))))))))))
