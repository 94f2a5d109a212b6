-- A cipher state as document 01 has it: the contents of A, B, R1, R2 and R3, and nothing that is kept beside them (SNOW-V paper, section 2
-- and figure 1). A and B are lists of 16 cells, cell 0 first; R1, R2 and R3 are blocks of 16 bytes, byte 0 the least significant.
use Rattle.std.specs.Prelude.{List, ℕ}
use Rattle.words.specs.Bytes.{IsBlock}
use Rattle.lfsr.specs.Clock.{Lfsr, IsLfsr}

pub record Registers : Type 0 where
  -- A and B
  pub lfsr : Lfsr
  pub r1 : List ℕ
  pub r2 : List ℕ
  pub r3 : List ℕ

-- registers that hold cells and blocks, as those of every `State` of the code do (`every_state` of proofs/Typed.antt)
pub record IsRegisters (s : Registers) : Type 0 where
  pub cells : IsLfsr s.lfsr
  pub in_r1 : IsBlock s.r1
  pub in_r2 : IsBlock s.r2
  pub in_r3 : IsBlock s.r3
