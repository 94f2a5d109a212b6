-- ⊞ and ⊟ undo each other on blocks, and with xor they keep blocks blocks: each is one law over what is done to two words.
use Rattle.std.proofs.Common.{◌≡◌, ℕ, ◌+◌, ◌-◌, ◌*◌, ◌%◌, ◌^◌, ◌<◌, List, length, sym, ap, ◌∙◌, mod-lt, add_comm, arith, lit<}
use Rattle.words.specs.Xor.{pointwise, xors}
use Rattle.words.specs.Bytes.{littles, numbers, Row, IsBlock}
use Rattle.words.specs.Sums.{add32, wordwise, ◌⊞◌}
use Rattle.words.specs.Differences.{sub32, ◌⊟◌}
use Rattle.words.proofs.Rows.{pointwise_row, pointwise_comm, pointwise_undone, xors_row, xors_twice}
use Rattle.words.proofs.Bytes.{littles_long, littles_below, numbers_row, littles_numbers, numbers_littles}

abbrev IsWords : List ℕ → Type 0
IsWords = Row 4 (2 ^ 32)

pub block_of : (xs : List ℕ) → length xs ≡ 4 → IsBlock (littles 4 xs)
block_of xs e = record { long = littles_long 4 xs ∙ ap (λ (n : ℕ). n * 4) e; below = littles_below 4 xs }

pub words_of : {s : List ℕ} → IsBlock s → IsWords (numbers 4 4 s)
words_of r = numbers_row 4 4 (lit< tt) r

-- of any two words f makes a word
abbrev Makes : (ℕ → ℕ → ℕ) → Type 0
Makes f = (x y : ℕ) → x < 2 ^ 32 → y < 2 ^ 32 → f x y < 2 ^ 32

add32_makes : Makes add32
add32_makes x y hx hy = mod-lt (x + y) (lit< tt)

sub32_makes : Makes sub32
sub32_makes x y hx hy = mod-lt (x + (2 ^ 32 - y)) (lit< tt)

module _ (x y : List ℕ) (p : IsBlock x) (q : IsBlock y) where
  module _ (f : ℕ → ℕ → ℕ) (m : Makes f) where
    words_made : IsWords (pointwise f (numbers 4 4 x) (numbers 4 4 y))
    words_made = pointwise_row f (2 ^ 32) 4 m (words_of p) (words_of q)

    wordwise_block : IsBlock (wordwise f x y)
    wordwise_block = block_of _ words_made.long

    -- what undoes f word by word undoes it
    wordwise_undone : (g : ℕ → ℕ → ℕ) → ((a b : ℕ) → a < 2 ^ 32 → b < 2 ^ 32 → g (f a b) b ≡ a) → wordwise g (wordwise f x y) y ≡ x
    wordwise_undone g h =
        ap (λ (t : List ℕ). littles 4 (pointwise g t (numbers 4 4 y))) (numbers_littles 4 4 _ words_made)
        ∙ ap (littles 4)
        (pointwise_undone f g (numbers 4 4 x) (numbers 4 4 y) ((words_of p).long ∙ sym (words_of q).long)
        (λ i. h _ _ ((words_of p).below i) ((words_of q).below i)))
        ∙ littles_numbers 4 4 x p

  pub ⊞-block : IsBlock (x ⊞ y)
  unfolding ◌⊞◌
  ⊞-block = wordwise_block add32 add32_makes

  pub ⊟-block : IsBlock (x ⊟ y)
  unfolding ◌⊟◌
  ⊟-block = wordwise_block sub32 sub32_makes

  pub xors_block : IsBlock (xors x y)
  xors_block = xors_row 8 16 p q

  pub xors_back : xors (xors x y) y ≡ x
  xors_back = xors_twice x y (p.long ∙ sym q.long)

⊞-comm : (x y : List ℕ) → x ⊞ y ≡ y ⊞ x
unfolding ◌⊞◌
⊞-comm x y = ap (littles 4) (pointwise_comm add32 (λ a b. ap (λ (n : ℕ). n % 2 ^ 32) (add_comm a b)) (numbers 4 4 x) (numbers 4 4 y))

module _ (x y : List ℕ) (p : IsBlock x) (q : IsBlock y) where
  -- what was added first is what is taken off
  pub ⊟-⊞ : (x ⊞ y) ⊟ x ≡ y
  unfolding ◌⊞◌ ◌⊟◌
  ⊟-⊞ = ap (λ (t : List ℕ). t ⊟ x) (⊞-comm x y) ∙ wordwise_undone y x q p add32 add32_makes sub32 (λ a b ha hb. omega arith)

  pub ⊞-⊟ : y ⊞ (x ⊟ y) ≡ x
  unfolding ◌⊞◌ ◌⊟◌
  ⊞-⊟ = ⊞-comm y (x ⊟ y) ∙ wordwise_undone x y p q sub32 sub32_makes add32 (λ a b ha hb. omega arith)
