-- What is stated of "leads to" beside the contracts. `one_origin` of proofs/Tracing.antt proves it.
use Rattle.std.specs.Prelude.{ℕ, ◌≡◌, List}
use Rattle.words.specs.Bytes.{Row}
use Rattle.cipher.specs.Registers.{Registers}
use Rattle.start.specs.Start.{Mode}
use Rattle.start.specs.Leads.{LeadsTo}

-- At a count, under a key of 32 bytes, at most one IV and mode lead to a state: two starts that differ in either do not meet.
abbrev pub OneOrigin : Type 0
OneOrigin =
    (key : List ℕ) → Row 32 256 key → (n : ℕ) (s : Registers) (iv iv' : List ℕ) (m m' : Mode) → LeadsTo key n iv m s → LeadsTo key n iv' m' s
    → (iv ≡ iv') × (m ≡ m')
