-- What the program prints (document 01, "Whole pages, keeping, program"), from the bytes of its input to the bytes of its output. What is sealed
-- and with which number a seal is refused is said by crates/page/specs.
use Rattle.std.specs.Prelude.{ℕ, ◌+◌, ◌/◌, ◌%◌, List, [], ◌∷◌, ◌++◌, eqb, ltb}
use Prim.Native.Char.{code}
use Prim.Native.String.{String, [] as []ᵗ, ◌∷◌ as ◌∷ᵗ◌}
use Rattle.scope.specs.Refusals.{pick, malformed as unreadable}
use Rattle.page.specs.Page.{cipher_of, page_tag}
use Rattle.page.specs.Calls.{seal_number}
use Rattle.command.specs.Hex.{bytes_of, hex_of}
use Rattle.command.specs.Lines.{Lines, Lines.four, Lines.malformed, lines_in}

-- the program's answer: the ciphertext and the tag, or a refusal
pub data Answer : Type 0 where
  sealed : (cipher tag : List ℕ) → Answer
  refused : ℕ → Answer

-- the answer to a key, an IV, data and a text: seal's, with an output as long as the text
unfoldable pub answer_for : (key iv ad text : List ℕ) → Answer
answer_for key iv d t =
    pick (eqb (seal_number key iv d t t) 0) (sealed (cipher_of key iv t) (page_tag key iv d t)) (refused (seal_number key iv d t t))

-- 11 first
abbrev pub answer_to : Lines → Answer
answer_to (four k v d t) = answer_for (bytes_of k) (bytes_of v) (bytes_of d) (bytes_of t)
answer_to malformed = refused unreadable

-- the bytes of an ASCII text
abbrev pub ascii : String → List ℕ
ascii []ᵗ = []
ascii (c ∷ᵗ s) = code c ∷ ascii s

-- a number below 100 in decimal
unfoldable pub decimal : ℕ → List ℕ
decimal n = pick (ltb n 10) ((0x30 + n % 10) ∷ []) ((0x30 + n / 10 % 10) ∷ (0x30 + n % 10) ∷ [])

-- "refused " and the number, or two lines: each ends with byte 0a
unfoldable pub printed : Answer → List ℕ
printed (sealed c t) = ascii "cipher=" ++ hex_of c ++ (0x0a ∷ []) ++ ascii "auth=" ++ hex_of t ++ (0x0a ∷ [])
printed (refused n) = ascii "refused " ++ decimal n ++ (0x0a ∷ [])

-- the whole output
unfoldable pub output : (input : List ℕ) → List ℕ
output input = printed (answer_to (lines_in input))
