-- What the program reads (document 01, "Whole pages, keeping, program"): four lines, each ended by byte 0a, in lower-case hex, an even number
-- of digits, none allowed, at most 8,192 digits a line, nothing after. An input is the list of its bytes.
use Rattle.std.specs.Prelude.{ℕ, ◌%◌, Bool, ◌&&◌, List, [], ◌∷◌, eqb, leb, length}
use Rattle.scope.specs.Limits.{most_digits}
use Rattle.scope.specs.Refusals.{pick}
use Rattle.command.specs.Hex.{all_digits}

-- a line off the front of an input: the line without its 0a, and what follows; or that there is none
pub data Line : Type 0 where
  ended : (line rest : List ℕ) → Line
  no_line : Line

-- the same with one more byte in front
abbrev pub behind : ℕ → Line → Line
behind b (ended l r) = ended (b ∷ l) r
behind b no_line = no_line

-- the bytes up to the first 0a
unfoldable pub up_to_end : List ℕ → Line
up_to_end [] = no_line
up_to_end (b ∷ s) = pick (eqb b 0x0a) (ended [] s) (behind b (up_to_end s))

-- lower-case hex, an even number of digits, at most 8,192
unfoldable pub well_formed : List ℕ → Bool
well_formed l = all_digits l && eqb (length l % 2) 0 && leb (length l) most_digits

-- a line counts only where it is well formed
abbrev pub checked : Line → Line
checked (ended l r) = pick (well_formed l) (ended l r) no_line
checked no_line = no_line

-- an input's first line
unfoldable pub first_line : List ℕ → Line
first_line s = checked (up_to_end s)

-- the four lines of an input, or that it is malformed
pub data Lines : Type 0 where
  four : (key iv ad text : List ℕ) → Lines
  malformed : Lines

-- a line is read, and then what follows it; or there is none
abbrev pub then : Line → (List ℕ → List ℕ → Lines) → Lines
then (ended l r) next = next l r
then no_line next = malformed

-- nothing is left
abbrev pub at_end : List ℕ → Lines → Lines
at_end [] ls = ls
at_end (b ∷ s) ls = malformed

unfoldable pub lines_in : List ℕ → Lines
lines_in input =
    then (first_line input) λ key rest.
    then (first_line rest) λ iv rest.
    then (first_line rest) λ ad rest.
    then (first_line rest) λ text rest.
    at_end rest (four key iv ad text)
