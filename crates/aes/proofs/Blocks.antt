-- The round back on the machine's block, from its columns: byte r of a gathered column comes from row r of another column, and the table that is
-- lent holds the inverse S-box's value there.
use mathlib.Core.Path.{◌≡◌, ◌∙◌}
use mathlib.Core.List.{List, [], ◌++◌, map}
use Prim.Native.Nat.{ℕ}
use Rattle.words.specs.Bytes.{little, littles}
use Rattle.words.specs.Machine.{bytes_of}
use Rattle.words.specs.declared.Block.{Block}
use Rattle.words.proofs.Bytes.{little_below}
use Rattle.words.proofs.Blocks.{four}
use Rattle.aes.specs.Unround.{unsub, unmix_columns, unround}
use Rattle.aes.specs.Round.{gathered, mix_by}
use Rattle.aes.specs.Tables.{Holds}
use Rattle.aes.specs.Columns.{diagonal}

-- a column that is gathered through a table
abbrev Gathers : List ℕ → (w x y z g : ℕ) → Type 0
Gathers t w x y z g = little 4 g ≡ gathered (diagonal (little 4 w) (little 4 x) (little 4 y) (little 4 z)) t

module _ (f : ℕ → ℕ) (t : List ℕ) (h : Holds f t) where
  looked_up : (w x y z g : ℕ) → Gathers t w x y z g
      → little 4 g ≡ map f (diagonal (little 4 w) (little 4 x) (little 4 y) (little 4 z))
  unfolding gathered
  looked_up w x y z g e =
      e ∙ four (h.rule _ (little_below 4 w 0)) (h.rule _ (little_below 4 x 1)) (h.rule _ (little_below 4 y 2)) (h.rule _ (little_below 4 z 3))

-- four columns are a block
columns : (x : Block) {a b c d : List ℕ} → little 4 x.w0 ≡ a → little 4 x.w1 ≡ b → little 4 x.w2 ≡ c → little 4 x.w3 ≡ d
    → bytes_of x ≡ a ++ (b ++ (c ++ (d ++ [])))
unfolding bytes_of littles
columns x p q r s = λ i. p i ++ (q i ++ (r i ++ (s i ++ [])))

module _ (x y : Block) (t : List ℕ) (h : Holds unsub t) where
  pub is_unround : (a b c d : ℕ)
      → little 4 a ≡ unmix_columns (little 4 x.w0) → little 4 b ≡ unmix_columns (little 4 x.w1)
      → little 4 c ≡ unmix_columns (little 4 x.w2) → little 4 d ≡ unmix_columns (little 4 x.w3)
      → Gathers t a d c b y.w0
      → Gathers t b a d c y.w1
      → Gathers t c b a d y.w2
      → Gathers t d c b a y.w3
      → bytes_of y ≡ unround (bytes_of x)
  unfolding bytes_of littles little unround gathered mix_by
  is_unround a b c d ma mb mc md ga gb gc gd =
      columns y (looked_up unsub t h a d c b y.w0 ga ∙ (λ i. map unsub (diagonal (ma i) (md i) (mc i) (mb i))))
      (looked_up unsub t h b a d c y.w1 gb ∙ (λ i. map unsub (diagonal (mb i) (ma i) (md i) (mc i))))
      (looked_up unsub t h c b a d y.w2 gc ∙ (λ i. map unsub (diagonal (mc i) (mb i) (ma i) (md i))))
      (looked_up unsub t h d c b a y.w3 gd ∙ (λ i. map unsub (diagonal (md i) (mc i) (mb i) (ma i))))
