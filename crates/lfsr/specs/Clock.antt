-- The two registers and their clock: SNOW-V paper, section 2, equations (3) and (4), and Algorithm 3; document 01, "Words and the two
-- registers". LFSR-A and LFSR-B are lists of 16 cells, cell 0 first. The roots and the taps are a parameter, and `snow_v` is the cipher's
-- choice of them. Left out: T1 and T2, the cells that the rest of the cipher reads.
use Rattle.std.specs.Prelude.{ℕ, zero, suc, List, [], ◌∷◌, ◌++◌, get_or, drop}
use Rattle.words.specs.Xor.{◌⊕◌}
use Rattle.words.specs.Bytes.{Row}
use Rattle.lfsr.specs.Cells.{alpha, alpha⁻¹, beta, beta⁻¹}

pub record Lfsr : Type 0 where
  pub a : List ℕ
  pub b : List ℕ

-- what a cipher of this kind chooses: the two roots, and what a new cell takes of its own register beside cell 0
pub record Taps : Type 0 where
  pub alpha : ℕ → ℕ
  pub beta : ℕ → ℕ
  pub tap_a : (ℕ → ℕ) → ℕ
  pub tap_b : (ℕ → ℕ) → ℕ

-- SNOW-V's
abbrev pub snow_v : Taps
snow_v = record { alpha = alpha; beta = beta; tap_a = λ a. a 1 ⊕ alpha⁻¹ (a 8); tap_b = λ b. b 3 ⊕ beta⁻¹ (b 8) }

-- cell i of a register
abbrev pub cell : List ℕ → ℕ → ℕ
cell l i = get_or l i 0

-- (3): the new cell of LFSR-A, of the old cells of both
abbrev pub new_a : Taps → (ℕ → ℕ) → (ℕ → ℕ) → ℕ
new_a t a b = (b 0 ⊕ t.alpha (a 0)) ⊕ t.tap_a a

-- (4): and of LFSR-B
abbrev pub new_b : Taps → (ℕ → ℕ) → (ℕ → ℕ) → ℕ
new_b t a b = (a 0 ⊕ t.beta (b 0)) ⊕ t.tap_b b

-- the cells move down by one, and x becomes the last
abbrev pub shift : List ℕ → ℕ → List ℕ
shift l x = drop 1 l ++ (x ∷ [])

-- one clock
unfoldable pub clock : Taps → Lfsr → Lfsr
clock t s =
    record {
      a = shift s.a (new_a t (cell s.a) (cell s.b));
      b = shift s.b (new_b t (cell s.a) (cell s.b));
    }

-- n clocks; Algorithm 3 is eight
unfoldable pub clocks : Taps → ℕ → Lfsr → Lfsr
clocks t zero s = s
clocks t (suc n) s = clock t (clocks t n s)

-- sixteen cells of 16 bits in each register
pub record IsLfsr (s : Lfsr) : Type 0 where
  pub in_a : Row 16 65536 s.a
  pub in_b : Row 16 65536 s.b
