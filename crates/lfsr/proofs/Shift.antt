-- One register and its tap, through one clock and back. A tap reads cells 1 to 8 alone, and a clock only moves those; so what the tap gave
-- can be taken off the last cell again, both after a clock and before it.
use mathlib.Core.Path.{◌≡◌, sym, ap, ap₂, ◌∙◌}
use mathlib.Core.List.{List, [], ◌∷◌, ◌++◌}
use Prim.Native.Nat.{ℕ, zero, suc, ◌+◌, ◌-◌, ◌^◌, ◌<◌, ◌≤◌}
use native.Mathlib.Omega.{arith}
use lib.Dec.{lit<}
use lib.ListN.{length, take, drop, length-append, length-drop}
use lib.Seq.{take_at, get_or_at, take-suc, take_all, drop-cons, get_or-drop, get_or-take, length-take-le}
use Rattle.words.specs.Xor.{◌⊕◌}
use Rattle.words.specs.Bytes.{Row}
use Rattle.words.proofs.XorLaws.{⊕-lt, ⊕-twice}
use Rattle.words.proofs.Rows.{Below, below_take, below_drop, below_append}
use Rattle.lfsr.specs.Clock.{cell, shift}
use Rattle.lfsr.specs.Unclock.{untapped}
use Rattle.lfsr.proofs.Linear.{Linear}

-- all cells, as a tap sees them
abbrev pub Small : (ℕ → ℕ) → Type 0
Small r = (i : ℕ) → r i < 2 ^ 16

-- the same at 1 to 8
abbrev pub Near : (ℕ → ℕ) → (ℕ → ℕ) → Type 0
Near r u = (j : ℕ) → 1 ≤ j → j ≤ 8 → r j ≡ u j

-- a tap reads cells 1 to 8 alone, and gives a cell
pub record Reads (tap : (ℕ → ℕ) → ℕ) : Type 0 where
  pub near : (r u : ℕ → ℕ) → Near r u → tap r ≡ tap u
  pub keeps : (r : ℕ → ℕ) → Small r → tap r < 2 ^ 16

abbrev pub Register : List ℕ → Type 0
Register = Row 16 65536

below_one : (x : ℕ) → x < 2 ^ 16 → Below (2 ^ 16) (x ∷ [])
below_one x h zero = h
below_one x h (suc i) = lit< tt

below_cons : (x : ℕ) (l : List ℕ) → x < 2 ^ 16 → Below (2 ^ 16) l → Below (2 ^ 16) (x ∷ l)
below_cons x l h p zero = h
below_cons x l h p (suc i) = p i

module _ {l : List ℕ} (c : Register l) where
  front : length (drop 1 l) ≡ 15
  front = length-drop 1 l ∙ ap (λ (k : ℕ). k - 1) c.long

  pub shift_take : (x : ℕ) → take 15 (shift l x) ≡ drop 1 l
  shift_take x = take_at (drop 1 l) (x ∷ []) 15 front

  shift_last : (x : ℕ) → cell (shift l x) 15 ≡ x
  shift_last x = get_or_at (drop 1 l) x [] 0 15 front

  -- cell j was at j - 1 after
  shift_near : (x : ℕ) → Near (λ j. cell (shift l x) (j - 1)) (cell l)
  shift_near x j h k =
      sym (get_or-take 15 (shift l x) (j - 1) 0 (omega arith)) ∙ ap (λ (m : List ℕ). cell m (j - 1)) (shift_take x)
      ∙ get_or-drop 1 l (j - 1) 0 ∙ ap (cell l) (omega arith)

  unshift_near : (x : ℕ) → Near (cell (x ∷ take 15 l)) (λ j. cell l (j - 1))
  unshift_near x zero h k = absurd (omega arith)
  unshift_near x (suc j) h k = get_or-take 15 l j 0 (omega arith) ∙ ap (cell l) (omega arith)

  pub first : cell l 0 ∷ drop 1 l ≡ l
  first = sym (drop-cons l 0 0 (omega (arith, c.long)))

  last : take 15 l ++ (cell l 15 ∷ []) ≡ l
  last = sym (take-suc l 15 0 (omega (arith, c.long))) ∙ take_all 16 l (omega (arith, c.long))

  pub shift_register : (x : ℕ) → x < 2 ^ 16 → Register (shift l x)
  shift_register x h =
      record {
        long = length-append (drop 1 l) (x ∷ []) ∙ ap (λ (k : ℕ). k + 1) front;
        below = below_append 65536 (drop 1 l) (x ∷ []) (below_drop 65536 1 l c.below) (below_one x h);
      }

  pub unshift_register : (x : ℕ) → x < 2 ^ 16 → Register (x ∷ take 15 l)
  unshift_register x h =
      record {
        long = ap suc (length-take-le 15 l (omega (arith, c.long)));
        below = below_cons x (take 15 l) h (below_take 65536 15 l (lit< tt) c.below);
      }

  module _ {tap : (ℕ → ℕ) → ℕ} (n : Reads tap) where
    -- after a clock
    pub untapped_shift : (x : ℕ) → untapped tap (shift l (x ⊕ tap (cell l))) ≡ x
    untapped_shift x = ap₂ ◌⊕◌ (shift_last (x ⊕ tap (cell l))) (n.near _ _ (shift_near (x ⊕ tap (cell l)))) ∙ sym (⊕-twice x (tap (cell l)))

    -- and before it
    pub shift_untapped : (x p : ℕ) → p ≡ untapped tap l → shift (x ∷ take 15 l) (p ⊕ tap (cell (x ∷ take 15 l))) ≡ l
    shift_untapped x p e =
        ap (λ (y : ℕ). take 15 l ++ (y ∷ [])) (ap₂ ◌⊕◌ e (n.near _ _ (unshift_near x)) ∙ sym (⊕-twice (cell l 15) (tap (λ j. cell l (j - 1))))) ∙ last

    pub untapped_lt : untapped tap l < 2 ^ 16
    untapped_lt = ⊕-lt 16 _ _ (c.below 15) (n.keeps _ (λ j. c.below (j - 1)))

    -- the new cell, with u the other register's cell 0
    pub fresh_lt : {root : ℕ → ℕ} → Linear root → (u : ℕ) → u < 2 ^ 16 → (u ⊕ root (cell l 0)) ⊕ tap (cell l) < 2 ^ 16
    fresh_lt r u h = ⊕-lt 16 _ _ (⊕-lt 16 u _ h (r.keeps _ (c.below 0))) (n.keeps _ c.below)
