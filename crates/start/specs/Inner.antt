-- What only inner functions' contracts use.
use Rattle.std.specs.Prelude.{ℕ, ◌≡◌, not, List, ◌++◌, eqb, ltb, length, take, drop}
use Rattle.scope.specs.Limits.{most_blocks}
use Rattle.scope.specs.Refusals.{refuse, key_length, count_too_high}
use Rattle.words.specs.Xor.{xors}
use Rattle.words.specs.Bytes.{numbers}
use Rattle.lfsr.specs.Clock.{Lfsr}
use Rattle.cipher.specs.Registers.{Registers}
use Rattle.cipher.specs.Machine.{registers_of}
use Rattle.start.specs.declared.Walked.{Walked}

-- a block xored into a8 to a15
abbrev pub fed : List ℕ → Lfsr → Lfsr
fed x l = record { a = take 8 l.a ++ xors (drop 8 l.a) (numbers 2 8 x); b = l.b }

-- the number of a trace before its walk: 1 or 9
unfoldable pub walk_number : (key : List ℕ) (count : ℕ) → ℕ
walk_number key n = refuse (not (eqb (length key) 32)) key_length (refuse (ltb most_blocks n) count_too_high 0)

-- where a walk back has come to, and the steps that it has taken
pub record Walks (s : Registers) (n : ℕ) (w : Walked) : Type 0 where
  pub registers : registers_of w.registers ≡ s
  pub steps : w.steps ≡ n
