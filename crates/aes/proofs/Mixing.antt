-- Two mixings undo each other where the product of their matrices is one. A product by a constant is linear, so that the composition has
-- one coefficient for each of the four bytes, and each coefficient is a sum of doublings in which all but one byte falls out.
use mathlib.Core.Path.{◌≡◌, refl, ap, ◌∙◌}
use mathlib.Core.List.{List, [], ◌∷◌}
use Prim.Native.Nat.{ℕ, zero, suc, ◌<◌}
use lib.ListN.{length}
use Rattle.words.specs.Xor.{◌⊕◌}
use Rattle.words.specs.Bytes.{Row}
use Rattle.words.proofs.XorLaws.{xor, ⊕-lt}
use Rattle.words.proofs.Rows.{Below}
use Rattle.aes.specs.Field.{xtime, mul_bits, gmul}
use Rattle.aes.specs.Round.{dot, mix_by, mix_columns}
use Rattle.aes.specs.Unround.{unmix_columns}
use Rattle.aes.proofs.Products.{gmul_xor, gmul_lt, products}

-- what two mixings, one after the other, make of one byte
abbrev coefficient : ℕ → ℕ → ℕ → ℕ → ℕ → ℕ → ℕ → ℕ → ℕ → ℕ
coefficient j0 j1 j2 j3 p q r s x = gmul j0 (gmul p x) ⊕ gmul j1 (gmul q x) ⊕ gmul j2 (gmul r x) ⊕ gmul j3 (gmul s x)

-- the product of the two matrices is one
record Undoes (j0 j1 j2 j3 k0 k1 k2 k3 : ℕ) : Type 0 where
  same : (x : ℕ) → coefficient j0 j1 j2 j3 k0 k3 k2 k1 x ≡ x
  none1 : (x : ℕ) → coefficient j0 j1 j2 j3 k1 k0 k3 k2 x ≡ 0
  none2 : (x : ℕ) → coefficient j0 j1 j2 j3 k2 k1 k0 k3 x ≡ 0
  none3 : (x : ℕ) → coefficient j0 j1 j2 j3 k3 k2 k1 k0 x ≡ 0

forth : Undoes 14 11 13 9 2 3 1 1
unfolding gmul mul_bits
forth =
    record {
      same = λ x. simp (products, xor);
      none1 = λ x. simp (products, xor);
      none2 = λ x. simp (products, xor);
      none3 = λ x. simp (products, xor);
    }

back : Undoes 2 3 1 1 14 11 13 9
unfolding gmul mul_bits
back =
    record {
      same = λ x. simp (products, xor);
      none1 = λ x. simp (products, xor);
      none2 = λ x. simp (products, xor);
      none3 = λ x. simp (products, xor);
    }

module _ (j0 j1 j2 j3 k0 k1 k2 k3 : ℕ) where
  -- sixteen products, sorted by the byte that they are of
  by_bytes : (a b c d : ℕ)
      → dot j0 j1 j2 j3 (dot k0 k1 k2 k3 a b c d) (dot k0 k1 k2 k3 b c d a) (dot k0 k1 k2 k3 c d a b) (dot k0 k1 k2 k3 d a b c)
      ≡ coefficient j0 j1 j2 j3 k0 k3 k2 k1 a ⊕ coefficient j0 j1 j2 j3 k1 k0 k3 k2 b ⊕ coefficient j0 j1 j2 j3 k2 k1 k0 k3 c
      ⊕ coefficient j0 j1 j2 j3 k3 k2 k1 k0 d
  unfolding dot
  by_bytes a b c d = simp (gmul_xor, xor)

module _ (j0 j1 j2 j3 k0 k1 k2 k3 : ℕ) (u : Undoes j0 j1 j2 j3 k0 k1 k2 k3) where
  dot_dot : (a b c d : ℕ)
      → dot j0 j1 j2 j3 (dot k0 k1 k2 k3 a b c d) (dot k0 k1 k2 k3 b c d a) (dot k0 k1 k2 k3 c d a b) (dot k0 k1 k2 k3 d a b c) ≡ a
  dot_dot a b c d =
      by_bytes j0 j1 j2 j3 k0 k1 k2 k3 a b c d ∙ (λ i. u.same a i ⊕ u.none1 b i ⊕ u.none2 c i ⊕ u.none3 d i) ∙ simp xor

  mix_undo : (s : List ℕ) → mix_by j0 j1 j2 j3 (mix_by k0 k1 k2 k3 s) ≡ s
  unfolding mix_by
  mix_undo [] = refl
  mix_undo (a ∷ []) = refl
  mix_undo (a ∷ b ∷ []) = refl
  mix_undo (a ∷ b ∷ c ∷ []) = refl
  mix_undo (a ∷ b ∷ c ∷ d ∷ s) =
      λ i. dot_dot a b c d i ∷ dot_dot b c d a i ∷ dot_dot c d a b i ∷ dot_dot d a b c i ∷ mix_undo s i

pub unmix_mix : (s : List ℕ) → unmix_columns (mix_columns s) ≡ s
unmix_mix = mix_undo 14 11 13 9 2 3 1 1 forth

pub mix_unmix : (s : List ℕ) → mix_columns (unmix_columns s) ≡ s
mix_unmix = mix_undo 2 3 1 1 14 11 13 9 back

-- ---- bytes stay bytes

module _ (k0 k1 k2 k3 : ℕ) where
  dot_lt : (a b c d : ℕ) → a < 256 → b < 256 → c < 256 → d < 256 → dot k0 k1 k2 k3 a b c d < 256
  unfolding dot
  dot_lt a b c d ha hb hc hd =
      ⊕-lt 8 _ _ (⊕-lt 8 _ _ (⊕-lt 8 _ _ (gmul_lt k0 a ha) (gmul_lt k1 b hb)) (gmul_lt k2 c hc)) (gmul_lt k3 d hd)

  mix_below : (s : List ℕ) → Below 256 s → Below 256 (mix_by k0 k1 k2 k3 s)
  unfolding mix_by
  mix_below [] h i = h i
  mix_below (a ∷ []) h i = h i
  mix_below (a ∷ b ∷ []) h i = h i
  mix_below (a ∷ b ∷ c ∷ []) h i = h i
  mix_below (a ∷ b ∷ c ∷ d ∷ s) h zero = dot_lt a b c d (h 0) (h 1) (h 2) (h 3)
  mix_below (a ∷ b ∷ c ∷ d ∷ s) h (suc zero) = dot_lt b c d a (h 1) (h 2) (h 3) (h 0)
  mix_below (a ∷ b ∷ c ∷ d ∷ s) h (suc (suc zero)) = dot_lt c d a b (h 2) (h 3) (h 0) (h 1)
  mix_below (a ∷ b ∷ c ∷ d ∷ s) h (suc (suc (suc zero))) = dot_lt d a b c (h 3) (h 0) (h 1) (h 2)
  mix_below (a ∷ b ∷ c ∷ d ∷ s) h (suc (suc (suc (suc i)))) = mix_below s (λ j. h (suc (suc (suc (suc j))))) i

  mix_long : (s : List ℕ) → length (mix_by k0 k1 k2 k3 s) ≡ length s
  unfolding mix_by
  mix_long [] = refl
  mix_long (a ∷ []) = refl
  mix_long (a ∷ b ∷ []) = refl
  mix_long (a ∷ b ∷ c ∷ []) = refl
  mix_long (a ∷ b ∷ c ∷ d ∷ s) = ap (λ (n : ℕ). suc (suc (suc (suc n)))) (mix_long s)

  pub mix_row : (n : ℕ) {s : List ℕ} → Row n 256 s → Row n 256 (mix_by k0 k1 k2 k3 s)
  mix_row n {s} r = record { long = mix_long s ∙ r.long; below = mix_below s r.below }

-- ---- a column as the code mixes it

module _ (a b c d : ℕ) where
  pub mixed_dot : xtime (a ⊕ b) ⊕ b ⊕ (c ⊕ d) ≡ dot 2 3 1 1 a b c d
  unfolding dot gmul mul_bits
  mixed_dot = simp (products, xor)

  -- the matrix of 14 11 13 9 is that of 2 3 1 1 times that of 5 0 4 0
  pub unmixed_dot : dot 2 3 1 1 (a ⊕ xtime (xtime (a ⊕ c))) (b ⊕ xtime (xtime (b ⊕ d))) (c ⊕ xtime (xtime (c ⊕ a))) (d ⊕ xtime (xtime (d ⊕ b)))
      ≡ dot 14 11 13 9 a b c d
  unfolding dot gmul mul_bits
  unmixed_dot = simp (products, xor)
