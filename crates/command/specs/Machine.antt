-- What the code's answers say, in the terms of the definitions.
use Rattle.std.specs.Prelude.{ℕ, ◌+◌, ◌-◌, ◌≤◌, ◌<◌, ◌≡◌, List, ◌++◌, length, take, drop, ltb, None, Some, Result, Ok, Err}
use Rattle.std.specs.declared.option.Option.{Option}
use Rattle.scope.specs.declared.Refusal.{Refusal}
use Rattle.scope.specs.Machine.{refusal_number}
use Rattle.scope.specs.Refusals.{pick}
use Rattle.words.specs.Bytes.{part}
use Rattle.command.specs.declared.Places.{Places}
use Rattle.command.specs.declared.Sealed.{Sealed}
use Rattle.command.specs.Output.{Answer, Answer.sealed, Answer.refused}
use Rattle.command.specs.Lines.{Line, Line.ended, Line.no_line, Lines, Lines.four, Lines.malformed}

-- what a digit says, and `None` for the 16 of a byte that is no digit
unfoldable pub said : ℕ → Option ℕ
said d = pick (ltb d 16) (Some d) None

-- the bytes from one place up to another
abbrev pub between : (from to : ℕ) → List ℕ → List ℕ
between from to s = part from (to - from) s

-- a line that starts at one place and ends at another
abbrev pub line_of : (input : List ℕ) (at : ℕ) → Option ℕ → Line
line_of s at (Some e) = ended (between at e s) (drop (e + 1) s)
line_of s at None = no_line

-- four lines that end at four places
abbrev pub lines_of : (input : List ℕ) → Option Places → Lines
lines_of s (Some p) = four (between 0 p.key s) (between (p.key + 1) p.iv s) (between (p.iv + 1) p.ad s) (between (p.ad + 1) p.text s)
lines_of s None = malformed

-- they lie one behind the other
abbrev pub Ordered : (input : List ℕ) → Option Places → Type 0
Ordered s (Some p) = (p.key < p.iv) × (p.iv < p.ad) × (p.ad < p.text) × (p.text < length s)
Ordered s None = Unit

-- the answer, with the ciphertext at the front of a list
abbrev pub answer_of : (cipher : List ℕ) → Result Sealed Refusal → Answer
answer_of c (Ok s) = sealed (take s.count c) s.tag
answer_of c (Err e) = refused (refusal_number e)

-- the ciphertext has at most 4,096 bytes, and that list has so many
abbrev pub Within : (cipher : List ℕ) → Result Sealed Refusal → Type 0
Within c (Ok s) = (s.count ≤ 4096) × (s.count ≤ length c)
Within c (Err e) = Unit

-- what is printed stands at the front of an output, whose bytes behind it stay, and n says how many bytes it has
pub record Prints (printed before after : List ℕ) (n : ℕ) : Type 0 where
  pub count : n ≡ length printed
  pub bytes : after ≡ printed ++ drop n before
