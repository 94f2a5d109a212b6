-- n steps of the registers, forward or back, and their blocks (document 01, "Round, step and step back").
use Rattle.std.specs.Prelude.{ℕ, zero, suc, Bool, true, false, List, [], ◌∷◌, ◌++◌}
use Rattle.words.specs.Bytes.{joined}
use Rattle.cipher.specs.Registers.{Registers}
use Rattle.cipher.specs.Step.{z, step}
use Rattle.cipher.specs.Back.{back}

-- a direction
abbrev pub forward : Bool
forward = false

abbrev pub backward : Bool
backward = true

-- one step in a direction, and the z of that step
unfoldable pub move : Bool → Registers → Registers
move true s = back s
move false s = step s

unfoldable pub made : Bool → Registers → List ℕ
made true s = z (back s)
made false s = z s

-- n of them
unfoldable pub moves : Bool → ℕ → Registers → Registers
moves d zero s = s
moves d (suc n) s = move d (moves d n s)

-- the blocks that n steps give, in the order made
unfoldable pub zs : Bool → ℕ → Registers → List (List ℕ)
zs d zero s = []
zs d (suc n) s = zs d n s ++ (made d (moves d n s) ∷ [])

-- their bytes
unfoldable pub blocks : Bool → ℕ → Registers → List ℕ
blocks d n s = joined (zs d n s)
