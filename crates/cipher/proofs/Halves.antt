-- Bytes of words against bytes of cells, and sigma on words: two cells make a word of the block, and sigma's four words are gathered from
-- every second byte of the quarters put together.
use mathlib.Core.Path.{◌≡◌, ap, ap₂, ◌∙◌}
use mathlib.Core.List.{List, [], ◌∷◌, ◌++◌}
use Prim.Native.Nat.{ℕ, ◌+◌, ◌*◌, ◌/◌, ◌%◌, ◌^◌}
use native.Mathlib.Omega.{arith}
use native.Mathlib.Nat.{mod-lt}
use lib.Bits.{bit_and, and_block, and_mask}
use lib.Dec.{lit<}
use Rattle.words.specs.Bytes.{little, littles}
use Rattle.words.specs.Machine.{bytes_of}
use Rattle.words.specs.declared.Block.{Block}
use Rattle.words.proofs.Blocks.{Words, four}
use Rattle.aes.specs.Round.{gathered}
use Rattle.cipher.specs.Step.{sigma}

-- eight cells, two to a word
pub half_bytes : (c0 c1 c2 c3 c4 c5 c6 c7 a b c d : ℕ)
    → little 4 a ≡ little 2 c0 ++ little 2 c1 → little 4 b ≡ little 2 c2 ++ little 2 c3
    → little 4 c ≡ little 2 c4 ++ little 2 c5 → little 4 d ≡ little 2 c6 ++ little 2 c7
    → littles 4 (a ∷ b ∷ c ∷ d ∷ []) ≡ littles 2 (c0 ∷ c1 ∷ c2 ∷ c3 ∷ c4 ∷ c5 ∷ c6 ∷ c7 ∷ [])
unfolding littles little
half_bytes c0 c1 c2 c3 c4 c5 c6 c7 a b c d p q r s = λ i. p i ++ (q i ++ (r i ++ (s i ++ [])))

-- ---- sigma

-- bytes 0 and 2 of a word alone
pub evens : (p : ℕ) → bit_and p 0x00ff00ff ≡ p % 256 + p / 65536 % 256 * 65536
evens p =
    let e : p ≡ p / 65536 * 2 ^ 16 + p % 65536 = omega arith in
    ap (λ (n : ℕ). bit_and n 0x00ff00ff) e
    ∙ and_block 16 (p / 65536) 0xff (p % 65536) 0xff (mod-lt p (lit< tt)) (lit< tt)
    ∙ ap₂ (λ (x y : ℕ). x * 2 ^ 16 + y) (and_mask (p / 65536) 8) (and_mask (p % 65536) 8)
    ∙ omega arith

-- and of two words in turn
pub interleave : (p q : ℕ) → little 4 (bit_and p 0x00ff00ff + bit_and q 0x00ff00ff * 0x100) ≡ p % 256 ∷ q % 256 ∷ p / 65536 % 256 ∷ q / 65536 % 256 ∷ []
unfolding little
interleave p q = rw (evens p, evens q) (four (omega arith) (omega arith) (omega arith) (omega arith))

-- what `interleaved` makes of p and q
abbrev pub in_turn : ℕ → ℕ → List ℕ
in_turn p q = p % 256 ∷ q % 256 ∷ p / 65536 % 256 ∷ q / 65536 % 256 ∷ []

module _ (x : Block) (w : Words x) where
  -- the lower and the upper quarters of two words
  abbrev pub lower : ℕ → ℕ → ℕ
  lower a c = a % 0x10000 + c % 0x10000 * 0x10000

  abbrev pub upper : ℕ → ℕ → ℕ
  upper a c = a / 0x10000 + c / 0x10000 * 0x10000

  pub sigma_words : (a b c d : ℕ)
      → little 4 a ≡ in_turn (lower x.w0 x.w2) (lower x.w1 x.w3)
      → little 4 b ≡ in_turn (lower x.w0 x.w2 / 0x100) (lower x.w1 x.w3 / 0x100)
      → little 4 c ≡ in_turn (upper x.w0 x.w2) (upper x.w1 x.w3)
      → little 4 d ≡ in_turn (upper x.w0 x.w2 / 0x100) (upper x.w1 x.w3 / 0x100)
      → littles 4 (a ∷ b ∷ c ∷ d ∷ []) ≡ sigma (bytes_of x)
  unfolding bytes_of sigma gathered littles little
  sigma_words a b c d p q r s =
      let h0 = w.in_0 in
      let h1 = w.in_1 in
      let h2 = w.in_2 in
      let h3 = w.in_3 in
      let e0 : in_turn (lower x.w0 x.w2) (lower x.w1 x.w3) ≡ x.w0 % 256 ∷ x.w1 % 256 ∷ x.w2 % 256 ∷ x.w3 % 256 ∷ [] =
      four (omega arith) (omega arith) (omega arith) (omega arith) in
      let e1 : in_turn (lower x.w0 x.w2 / 0x100) (lower x.w1 x.w3 / 0x100) ≡ x.w0 / 256 % 256 ∷ x.w1 / 256 % 256 ∷ x.w2 / 256 % 256 ∷ x.w3 / 256 % 256 ∷ [] =
      four (omega arith) (omega arith) (omega arith) (omega arith) in
      let e2 : in_turn (upper x.w0 x.w2) (upper x.w1 x.w3) ≡ x.w0 / 256 / 256 % 256 ∷ x.w1 / 256 / 256 % 256 ∷ x.w2 / 256 / 256 % 256 ∷ x.w3 / 256 / 256 % 256 ∷ [] =
      four (omega arith) (omega arith) (omega arith) (omega arith) in
      let e3 : in_turn (upper x.w0 x.w2 / 0x100) (upper x.w1 x.w3 / 0x100) ≡ x.w0 / 256 / 256 / 256 % 256 ∷ x.w1 / 256 / 256 / 256 % 256 ∷ x.w2 / 256 / 256 / 256 % 256 ∷ x.w3 / 256 / 256 / 256 % 256 ∷ [] =
      four (omega arith) (omega arith) (omega arith) (omega arith) in
      λ i. (p ∙ e0) i ++ ((q ∙ e1) i ++ ((r ∙ e2) i ++ ((s ∙ e3) i ++ [])))
