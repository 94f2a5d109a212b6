-- What the parts of the code make of columns, as lists of four bytes: the contracts of its private functions name these, and the two rounds
-- are defined without them.
use Rattle.std.specs.Prelude.{ℕ, List, [], ◌∷◌, get_or}

-- byte 0 of a, byte 1 of b, byte 2 of c and byte 3 of d
abbrev pub diagonal : List ℕ → List ℕ → List ℕ → List ℕ → List ℕ
diagonal a b c d = get_or a 0 0 ∷ get_or b 1 0 ∷ get_or c 2 0 ∷ get_or d 3 0 ∷ []

-- each byte one place down, the lowest to the top
abbrev pub turned : List ℕ → List ℕ
turned s = get_or s 1 0 ∷ get_or s 2 0 ∷ get_or s 3 0 ∷ get_or s 0 0 ∷ []
