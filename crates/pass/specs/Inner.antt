-- What the functions say and ask beside `Sealed`. No call's contract names anything here. p and o are the lengths of the piece and of the output, `from`
-- and `to` the places of the part in both.
use Rattle.std.specs.Prelude.{ℕ, ◌+◌, ◌-◌, ◌^◌, ◌<◌, ◌≤◌, List}
use Rattle.words.specs.Xor.{xors}
use Rattle.aes.specs.Tables.{Holds}
use Rattle.wide_round.specs.Wide.{wide}
use Rattle.ghash.specs.Machine.{Table}
use Rattle.cipher.specs.Registers.{Registers}
use Rattle.cipher.specs.Run.{forward, blocks}

-- n blocks of text under as many of keystream
abbrev pub under_blocks : Registers → (n : ℕ) → (p : List ℕ) → List ℕ
under_blocks s n p = xors p (blocks forward n s)

-- a part of the piece, at a length of text so far: it stands in both, and the length with it stays a u64
pub record Part (text p o from to : ℕ) : Type 0 where
  pub ordered : from ≤ to
  pub read : to ≤ p
  pub room : to ≤ o
  pub counts : text + (to - from) < 2 ^ 64

-- the lent tables: that of the rounds, and that of H
pub record Lent (h rounds table : List ℕ) : Type 0 where
  pub of_rounds : Holds wide rounds
  pub of_h : Table h table
