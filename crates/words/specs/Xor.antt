-- Xor of numbers and of lists of numbers: the ⊕ of the SNOW-V paper, section 2, and of document 01 ("+ is xor").
-- A number stands for its bits.
use Rattle.std.specs.Prelude.{ℕ, List, [], ◌∷◌, bit_xor}

infixl 60 ◌⊕◌
unfoldable pub ◌⊕◌ : ℕ → ℕ → ℕ
a ⊕ b = bit_xor a b

-- two lists element by element, as far as both go
abbrev pub pointwise : (ℕ → ℕ → ℕ) → List ℕ → List ℕ → List ℕ
pointwise f [] t = []
pointwise f (x ∷ s) [] = []
pointwise f (x ∷ s) (y ∷ t) = f x y ∷ pointwise f s t

unfoldable pub xors : List ℕ → List ℕ → List ℕ
xors s t = pointwise ◌⊕◌ s t
