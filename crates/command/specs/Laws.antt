-- What is stated of the program's input beside the contracts (document 01, "Whole pages, keeping, program": "Anything else is 11"). `reads_four_lines`
-- of proofs/Whole.antt proves it.
use Rattle.std.specs.Prelude.{ℕ, ◌<◌, ◌≡◌, ◌↔◌, true, List, [], ◌∷◌, ◌++◌, length, take}
use Rattle.command.specs.Lines.{Lines.four, Lines.malformed, well_formed, lines_in}
use Rattle.command.specs.Output.{output}

-- an input that is these four lines, each well formed and ended by byte 0a, and nothing after
pub record FourLines (s k v d t : List ℕ) : Type 0 where
  pub key : well_formed k ≡ true
  pub iv : well_formed v ≡ true
  pub ad : well_formed d ≡ true
  pub text : well_formed t ≡ true
  pub all : s ≡ k ++ 0x0a ∷ (v ++ 0x0a ∷ (d ++ 0x0a ∷ (t ++ 0x0a ∷ [])))

pub record ReadsFourLines : Type 0 where
  -- An input is read as four lines exactly when it is those lines.
  pub read_as : (s k v d t : List ℕ) → (four k v d t ≡ lines_in s) ↔ FourLines s k v d t
  -- So none of more than 32,772 bytes is,
  pub too_long : (s : List ℕ) → 32772 < length s → lines_in s ≡ malformed
  -- and an input cut off behind byte 32,773 has the output of the whole.
  pub cut_off : (s : List ℕ) → output (take 32773 s) ≡ output s
