-- A column as a word: what is done to the word, seen in its four bytes. Masks, and products that stay within each byte, go byte by byte; so
-- doubling the word with its top bits cut off, and adding 0x1b where a top bit was, doubles each byte in the field.
use mathlib.Core.Path.{◌≡◌, sym, ap, ap₂, ◌∙◌}
use mathlib.Core.List.{[], ◌∷◌, map}
use Prim.Native.Nat.{ℕ, ◌+◌, ◌*◌, ◌/◌, ◌%◌, ◌^◌, ◌<◌}
use native.Mathlib.Omega.{arith}
use Rattle.std.specs.Int.{w32, rotate_right}
use Rattle.std.proofs.lemmas.Nat.{or_comm, or_shifted}
use lib.Bits.{bit_and, bit_or, and_le_r, and_high}
use lib.Dec.{lit<}
use Rattle.words.specs.Xor.{◌⊕◌, xors}
use Rattle.words.specs.Bytes.{little, number}
use Rattle.words.proofs.Bytes.{little_row, number_little, little_number, little_xor}
use Rattle.words.proofs.Blocks.{four}
use Rattle.aes.specs.Field.{xtime}
use Rattle.aes.specs.Round.{mix_by, mix_columns}
use Rattle.aes.specs.Unround.{unmix_columns}
use Rattle.aes.specs.Columns.{turned}
use Rattle.aes.proofs.Tests.{each}
use Rattle.aes.proofs.Lists.{map_row, map_same, xors_map, number_and, number_times}
use Rattle.aes.proofs.Mixing.{mixed_dot, unmixed_dot}

-- four bytes as a word
pub joined : (a b c d : ℕ) → a < 256 → b < 256 → c < 256 → d < 256
    → little 4 (a + b * 0x100 + c * 0x10000 + d * 0x1000000) ≡ a ∷ b ∷ c ∷ d ∷ []
unfolding little
joined a b c d ha hb hc hd = four (omega arith) (omega arith) (omega arith) (omega arith)

-- ---- doubling

-- the two parts of a byte doubled: its low bits moved up, and 0x1b where the top bit was
abbrev moved : ℕ → ℕ
moved b = bit_and b 0x7f * 2

abbrev reduced : ℕ → ℕ
reduced b = b / 128 % 2 * 0x1b

doubled : (b : ℕ) → b < 256 → moved b ⊕ reduced b ≡ xtime b
unfolding xtime ◌⊕◌
doubled = each (λ b. moved b ⊕ reduced b) xtime tt

module _ (w : ℕ) (h : w < 2 ^ 32) where
  -- the bytes of a number that is made byte by byte
  made : (f : ℕ → ℕ) → ((b : ℕ) → f b < 256) → (n : ℕ) → n ≡ number (map f (little 4 w)) → little 4 n ≡ map f (little 4 w)
  made f small n e = ap (little 4) e ∙ little_number 4 (map f (little 4 w)) (map_row f small 4 (little 4 w) (little_row 4 w).long)

  masked : (m : ℕ) → m < 256 → bit_and w (number (m ∷ m ∷ m ∷ m ∷ [])) ≡ number (map (λ b. bit_and b m) (little 4 w))
  unfolding little
  masked m hm = ap (λ (n : ℕ). bit_and n (number (m ∷ m ∷ m ∷ m ∷ []))) (sym (number_little 4 w h)) ∙ number_and m hm (little 4 w) (little_row 4 w).below

  low : bit_and w 0x7f7f7f7f * 2 ≡ number (map moved (little 4 w))
  unfolding number
  low = ap (λ (n : ℕ). n * 2) (masked 0x7f (lit< tt)) ∙ sym (number_times 2 (λ b. bit_and b 0x7f) (little 4 w))

  high : bit_and w 0x80808080 / 0x80 * 0x1b ≡ number (map reduced (little 4 w))
  unfolding number
  high =
      let n = number (map (λ b. b / 128 % 2) (little 4 w)) in
      let e : bit_and w 0x80808080 ≡ n * 0x80 =
      masked 0x80 (lit< tt) ∙ ap number (map_same (λ b. bit_and b 0x80) (λ b. b / 128 % 2 * 0x80) (λ b _. and_high b 1 7) (little 4 w) (little_row 4 w).below)
      ∙ number_times 0x80 (λ b. b / 128 % 2) (little 4 w) in
      let d : bit_and w 0x80808080 / 0x80 ≡ n = omega arith in
      ap (λ (x : ℕ). x * 0x1b) d ∙ sym (number_times 0x1b (λ b. b / 128 % 2) (little 4 w))

  pub times_x : little 4 (bit_and w 0x7f7f7f7f * 2 ⊕ bit_and w 0x80808080 / 0x80 * 0x1b) ≡ map xtime (little 4 w)
  times_x =
      little_xor 4 _ _
      ∙ ap₂ xors (made moved (λ b. omega (arith, and_le_r b 0x7f)) _ low) (made reduced (λ b. omega arith) _ high)
      ∙ xors_map moved reduced (little 4 w)
      ∙ map_same (λ b. moved b ⊕ reduced b) xtime doubled (little 4 w) (little_row 4 w).below

  -- `rotate_right` by 8
  pub turn_down : little 4 (rotate_right w32 w 8) ≡ turned (little 4 w)
  unfolding little
  turn_down =
      let small : w / 2 ^ 8 < 2 ^ 24 = omega arith in
      let top : (w * 2 ^ 24) % 2 ^ 32 ≡ w % 2 ^ 8 * 2 ^ 24 = omega arith in
      let e : rotate_right w32 w 8 ≡ w % 2 ^ 8 * 2 ^ 24 + w / 2 ^ 8 =
      or_comm (w / 2 ^ 8) ((w * 2 ^ 24) % 2 ^ 32) ∙ ap (λ (t : ℕ). bit_or t (w / 2 ^ 8)) top ∙ or_shifted (w % 2 ^ 8) 24 (w / 2 ^ 8) small in
      let f : w % 2 ^ 8 * 2 ^ 24 + w / 2 ^ 8
      ≡ w / 256 % 256 + w / 256 / 256 % 256 * 0x100 + w / 256 / 256 / 256 % 256 * 0x10000 + w % 256 * 0x1000000 = omega arith in
      ap (little 4) (e ∙ f)
      ∙ joined (w / 256 % 256) (w / 256 / 256 % 256) (w / 256 / 256 / 256 % 256) (w % 256) (omega arith) (omega arith) (omega arith) (omega arith)

-- ---- mixing, in the code's steps

module _ (a b c d : ℕ) where
  mixed_four : let s = a ∷ b ∷ c ∷ d ∷ [] in
      xors (xors (map xtime (xors s (turned s))) (turned s)) (turned (turned (xors s (turned s)))) ≡ mix_columns s
  unfolding xors mix_by
  mixed_four = four (mixed_dot a b c d) (mixed_dot b c d a) (mixed_dot c d a b) (mixed_dot d a b c)

  unmixed_four : let s = a ∷ b ∷ c ∷ d ∷ [] in mix_columns (xors s (map xtime (map xtime (xors s (turned (turned s)))))) ≡ unmix_columns s
  unfolding xors mix_by
  unmixed_four = four (unmixed_dot a b c d) (unmixed_dot b c d a) (unmixed_dot c d a b) (unmixed_dot d a b c)

-- b is w turned, and of w ⊕ b, t is the double, and d is it turned twice
pub is_mixed : (w b t c d : ℕ) → little 4 b ≡ turned (little 4 w) → little 4 t ≡ map xtime (little 4 (w ⊕ b)) → little 4 c ≡ turned (little 4 (w ⊕ b))
    → little 4 d ≡ turned (little 4 c) → little 4 (t ⊕ b ⊕ d) ≡ mix_columns (little 4 w)
unfolding little
is_mixed w b t c d pb pt pc pd =
    let q = little_xor 4 w b ∙ ap (xors (little 4 w)) pb in
    little_xor 4 (t ⊕ b) d
    ∙ ap₂ xors (little_xor 4 t b ∙ ap₂ xors (pt ∙ ap (map xtime) q) pb) (pd ∙ ap turned (pc ∙ ap turned q))
    ∙ mixed_four (w % 256) (w / 256 % 256) (w / 256 / 256 % 256) (w / 256 / 256 / 256 % 256)

-- c is w turned twice, u is w ⊕ c doubled twice, and m is w ⊕ u mixed
pub is_unmixed : (w b c t u m : ℕ) → little 4 b ≡ turned (little 4 w) → little 4 c ≡ turned (little 4 b)
    → little 4 t ≡ map xtime (little 4 (w ⊕ c)) → little 4 u ≡ map xtime (little 4 t) → little 4 m ≡ mix_columns (little 4 (w ⊕ u))
    → little 4 m ≡ unmix_columns (little 4 w)
unfolding little
is_unmixed w b c t u m pb pc pt pu pm =
    let qt = pt ∙ ap (map xtime) (little_xor 4 w c ∙ ap (xors (little 4 w)) (pc ∙ ap turned pb)) in
    pm ∙ ap mix_columns (little_xor 4 w u ∙ ap (xors (little 4 w)) (pu ∙ ap (map xtime) qt))
    ∙ unmixed_four (w % 256) (w / 256 % 256) (w / 256 / 256 % 256) (w / 256 / 256 / 256 % 256)
