-- What only inner functions' contracts use: A and B alone, some steps on, and the taps that they leave in lanes of cells, eight a step; R1 and R2 in lanes of
-- bytes; and what a step back goes by.
use Rattle.std.specs.Prelude.{ℕ, zero, suc, ◌*◌, ◌<◌, ◌≡◌, List, length, take, drop}
use Rattle.words.specs.Bytes.{part}
use Rattle.words.specs.Machine.{bytes_of}
use Rattle.lfsr.specs.Clock.{Lfsr, snow_v, clocks}
use Rattle.cipher.specs.declared.Registers as machine
use Rattle.cipher.specs.declared.Before.{Before}
use Rattle.cipher.specs.Registers.{Registers}
use Rattle.cipher.specs.Back.{back, z_before}
use Rattle.cipher.specs.Machine.{registers_of}

-- A and B after n steps
unfoldable pub clocked : ℕ → Lfsr → Lfsr
clocked zero l = l
clocked (suc n) l = clocks snow_v 8 (clocked n l)

-- the lanes have T1 and T2 of each of the n steps from l on
pub record Tapped (l : Lfsr) (n : ℕ) (t1 t2 : List ℕ) : Type 0 where
  pub long1 : length t1 ≡ 128
  pub long2 : length t2 ≡ 128
  pub first : (i : ℕ) → i < n → part (8 * i) 8 t1 ≡ drop 8 (clocked i l).b
  pub second : (i : ℕ) → i < n → part (8 * i) 8 t2 ≡ take 8 (clocked i l).a

-- the registers whose R1 and R2 stand at a place of their lanes
abbrev pub in_lanes : (l : Lfsr) (l1 l2 : List ℕ) (at : ℕ) (r3 : List ℕ) → Registers
in_lanes l l1 l2 at r3 = record { lfsr = l; r1 = part at 16 l1; r2 = part at 16 l2; r3 = r3 }

-- what of the step that led to s does not hang on register A: R1 and R2 before it, and its z
pub record Precedes (s : machine.Registers) (p : Before) : Type 0 where
  pub r1 : bytes_of p.r1 ≡ (back (registers_of s)).r1
  pub r2 : bytes_of p.r2 ≡ (back (registers_of s)).r2
  pub z : bytes_of p.z ≡ z_before (registers_of s)
