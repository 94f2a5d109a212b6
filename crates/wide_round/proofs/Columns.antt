-- Four entries of the table, turned and xored, are a column of the round. An entry is a byte times the first column of the matrix, and each further column
-- of the matrix is the one before turned by one place: so the turned entries are the products that the matrix sums, row by row.
use mathlib.Core.Path.{◌≡◌, refl, sym, ap, ap₂, ◌∙◌}
use mathlib.Core.List.{List, [], ◌∷◌, ◌++◌, map}
use Prim.Native.Nat.{ℕ, ◌+◌, ◌*◌, ◌/◌, ◌%◌, ◌^◌, ◌<◌, ◌≤◌}
use native.Mathlib.Omega.{arith}
use native.Mathlib.Nat.{add_comm, mul_comm, zero-add, mod-eq_of_lt, div-eq_of_lt, add-mul-div_left, add-mul-mod_self_left}
use lib.Dec.{lit<}
use lib.ListN.{length, get_or}
use Rattle.words.specs.Xor.{◌⊕◌, xors}
use Rattle.words.specs.Bytes.{little, number, littles, part, Row}
use Rattle.words.specs.Machine.{bytes_of}
use Rattle.words.specs.declared.Block.{Block}
use Rattle.words.proofs.XorLaws.{xor}
use Rattle.words.proofs.Rows.{row_append, tab_all}
use Rattle.words.proofs.Parts.{part_long, part_at}
use Rattle.words.proofs.Bytes.{number_append, number_lt, little_number, little_xor}
use Rattle.words.proofs.Blocks.{four}
use Rattle.aes.specs.Field.{gmul, sub}
use Rattle.aes.specs.Round.{dot, mix_by, mix_columns, sub_bytes, gathered, round}
use Rattle.aes.proofs.Lists.{map_row}
use Rattle.aes.proofs.Products.{gmul_lt}
use Rattle.aes.proofs.Boxes.{sub_lt}
use Rattle.wide_round.specs.Wide.{wide}

-- ---- a word turned

-- a word of j + k bytes turned by k places: its j low bytes to the top
abbrev turn : (j k w : ℕ) → ℕ
turn j k w = w % 256 ^ j * 256 ^ k + w / 256 ^ j

module _ (s t : List ℕ) (r : Row (length s) 256 s) (q : Row (length t) 256 t) where
  turned : turn (length s) (length t) (number (s ++ t)) ≡ number (t ++ s)
  turned =
      let m = 256 ^ length s in
      let k = 256 ^ length t in
      let l : number s < m = number_lt (length s) s r in
      let low : number (s ++ t) % m ≡ number s =
      ap (λ (n : ℕ). n % m) (number_append s t) ∙ add-mul-mod_self_left (number s) m (number t) ∙ mod-eq_of_lt l in
      let high : number (s ++ t) / m ≡ number t =
      ap (λ (n : ℕ). n / m) (number_append s t) ∙ add-mul-div_left (number s) (number t) (omega arith)
      ∙ ap (λ (n : ℕ). n + number t) (div-eq_of_lt l) ∙ zero-add (number t) in
      ap₂ (λ (x y : ℕ). x * k + y) low high
      ∙ add_comm (number s * k) (number t) ∙ ap (λ (n : ℕ). number t + n) (mul_comm (number s) k)
      ∙ sym (number_append t s)

  turned_bytes : (w : ℕ) → w ≡ number (s ++ t) → little (length t + length s) (turn (length s) (length t) w) ≡ t ++ s
  turned_bytes w e =
      ap (λ (x : ℕ). little (length t + length s) (turn (length s) (length t) x)) e ∙ ap (little (length t + length s)) turned
      ∙ little_number (length t + length s) (t ++ s) (row_append 256 (length t) (length s) q r)

-- ---- the entry of a byte

-- the S-box byte times each
abbrev times : ℕ → List ℕ → List ℕ
times b = map (λ k. gmul k (sub b))

times_row : (b : ℕ) (ks : List ℕ) → Row (length ks) 256 (times b ks)
times_row b ks = map_row (λ k. gmul k (sub b)) (λ k. gmul_lt k (sub b) (sub_lt b)) (length ks) ks refl

pub wide_lt : (b : ℕ) → wide b < 2 ^ 32
unfolding wide
wide_lt b = number_lt 4 (times b (2 ∷ 1 ∷ 1 ∷ 3 ∷ [])) (times_row b (2 ∷ 1 ∷ 1 ∷ 3 ∷ []))

module _ (a b c d : ℕ) where
  sums : xors (xors (xors (times a (2 ∷ 1 ∷ 1 ∷ 3 ∷ [])) (times b (3 ∷ 2 ∷ 1 ∷ 1 ∷ []))) (times c (1 ∷ 3 ∷ 2 ∷ 1 ∷ []))) (times d (1 ∷ 1 ∷ 3 ∷ 2 ∷ []))
      ≡ mix_columns (sub_bytes (a ∷ b ∷ c ∷ d ∷ []))
  unfolding xors mix_by dot
  sums = four refl (simp xor) (simp xor) (simp xor)

  pub is_column : (p q r s : ℕ) → p ≡ wide a → q ≡ wide b → r ≡ wide c → s ≡ wide d
      → little 4 (p ⊕ turn 3 1 q ⊕ turn 2 2 r ⊕ turn 1 3 s) ≡ mix_columns (sub_bytes (a ∷ b ∷ c ∷ d ∷ []))
  unfolding wide
  is_column p q r s ep eq er es =
      little_xor 4 (p ⊕ turn 3 1 q ⊕ turn 2 2 r) (turn 1 3 s)
      ∙ ap₂ xors
      (little_xor 4 (p ⊕ turn 3 1 q) (turn 2 2 r)
      ∙ ap₂ xors
      (little_xor 4 p (turn 3 1 q)
      ∙ ap₂ xors
      (ap (little 4) ep ∙ little_number 4 (times a (2 ∷ 1 ∷ 1 ∷ 3 ∷ [])) (times_row a (2 ∷ 1 ∷ 1 ∷ 3 ∷ [])))
      (turned_bytes (times b (2 ∷ 1 ∷ 1 ∷ [])) (times b (3 ∷ [])) (times_row b (2 ∷ 1 ∷ 1 ∷ [])) (times_row b (3 ∷ [])) q eq))
      (turned_bytes (times c (2 ∷ 1 ∷ [])) (times c (1 ∷ 3 ∷ [])) (times_row c (2 ∷ 1 ∷ [])) (times_row c (1 ∷ 3 ∷ [])) r er))
      (turned_bytes (times d (2 ∷ [])) (times d (1 ∷ 1 ∷ 3 ∷ [])) (times_row d (2 ∷ [])) (times_row d (1 ∷ 1 ∷ 3 ∷ [])) s es)
      ∙ sums

-- ---- the round from its columns

-- a column of the round, of the bytes at four places
abbrev Column : (s : List ℕ) (i j k l w : ℕ) → Type 0
Column s i j k l w = little 4 w ≡ mix_columns (sub_bytes (get_or s i 0 ∷ get_or s j 0 ∷ get_or s k 0 ∷ get_or s l 0 ∷ []))

of_block : (v : List ℕ) → length v ≡ 16 → (y : Block)
    → Column v 0 5 10 15 y.w0 → Column v 4 9 14 3 y.w1 → Column v 8 13 2 7 y.w2 → Column v 12 1 6 11 y.w3
    → bytes_of y ≡ round v
unfolding bytes_of littles round gathered mix_by
of_block v e y p q r s = (λ i. p i ++ (q i ++ (r i ++ (s i ++ [])))) ∙ ap round (tab_all 16 v e)

module _ (s : List ℕ) (at : ℕ) (h : at + 16 ≤ length s) where
  moved : (i j k l w : ℕ) → i < 16 → j < 16 → k < 16 → l < 16
      → Column s (at + i) (at + j) (at + k) (at + l) w → Column (part at 16 s) i j k l w
  moved i j k l w hi hj hk hl p = p ∙ ap (λ (t : List ℕ). mix_columns (sub_bytes t)) (four (part_at s at 16 i hi) (part_at s at 16 j hj) (part_at s at 16 k hk) (part_at s at 16 l hl))

  pub is_round : (y : Block)
      → Column s at (at + 5) (at + 10) (at + 15) y.w0 → Column s (at + 4) (at + 9) (at + 14) (at + 3) y.w1
      → Column s (at + 8) (at + 13) (at + 2) (at + 7) y.w2 → Column s (at + 12) (at + 1) (at + 6) (at + 11) y.w3
      → bytes_of y ≡ round (part at 16 s)
  is_round y p q r t =
      let z : at + 0 ≡ at = omega arith in
      of_block (part at 16 s) (part_long s at 16 h) y
      (moved 0 5 10 15 y.w0 (lit< tt) (lit< tt) (lit< tt) (lit< tt) (rw z p))
      (moved 4 9 14 3 y.w1 (lit< tt) (lit< tt) (lit< tt) (lit< tt) q)
      (moved 8 13 2 7 y.w2 (lit< tt) (lit< tt) (lit< tt) (lit< tt) r)
      (moved 12 1 6 11 y.w3 (lit< tt) (lit< tt) (lit< tt) (lit< tt) t)
