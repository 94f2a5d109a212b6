-- Start (SNOW-V paper, section 2.1 and Algorithm 1; section 4 and equation (12) for sealed mode; document 01, "Start and trace").
-- A key is a list of 32 bytes, an IV (document 01's stay number) one of 16. Word i of either is its bytes 2i and 2i + 1, low byte first.
use Rattle.std.specs.Prelude.{ℕ, zero, suc, not, List, [], ◌∷◌, ◌++◌, eqb, length, take, drop, replicate}
use Rattle.scope.specs.Refusals.{refuse, key_length, iv_length}
use Rattle.words.specs.Xor.{xors}
use Rattle.words.specs.Bytes.{numbers, zeros}
use Rattle.cipher.specs.Registers.{Registers}
use Rattle.cipher.specs.Step.{z, step}
use Rattle.cipher.specs.Run.{forward, moves}
use Rattle.cipher.specs.State.{State}

-- the two modes: plain, and the paper's AEAD mode (section 4), which document 01 calls sealed
pub data Mode : Type 0 where
  plain : Mode
  sealed : Mode

-- what b0 to b7 are loaded with (12)
abbrev pub mode_cells : Mode → List ℕ
mode_cells plain = replicate 8 0
mode_cells sealed = 0x6c41 ∷ 0x7865 ∷ 0x6b45 ∷ 0x2064 ∷ 0x694a ∷ 0x676e ∷ 0x6854 ∷ 0x6d6f ∷ []

-- a0 to a7 are the IV's words and a8 to a15 the key's first eight, b8 to b15 its last eight; R1 to R3 are zero (lines 2 to 6)
unfoldable pub load : (key iv : List ℕ) → Mode → Registers
load key iv m =
    record {
      lfsr = record { a = numbers 2 8 iv ++ numbers 2 8 (take 16 key); b = mode_cells m ++ numbers 2 8 (drop 16 key) };
      r1 = zeros;
      r2 = zeros;
      r3 = zeros;
    }

-- a block xored into a8 to a15
unfoldable pub into_a : List ℕ → Registers → Registers
into_a x s =
    record {
      lfsr = record { a = take 8 s.lfsr.a ++ xors (drop 8 s.lfsr.a) (numbers 2 8 x); b = s.lfsr.b };
      r1 = s.r1;
      r2 = s.r2;
      r3 = s.r3;
    }

-- a block xored into R1
unfoldable pub into_r1 : List ℕ → Registers → Registers
into_r1 x s = record { lfsr = s.lfsr; r1 = xors s.r1 x; r2 = s.r2; r3 = s.r3 }

-- one of the 16 steps: after its clocks its z is xored into a8 to a15 (lines 8 to 12)
unfoldable pub initial : Registers → Registers
initial s = into_a (z s) (step s)

unfoldable pub initials : ℕ → Registers → Registers
initials zero s = s
initials (suc n) s = initial (initials n s)

-- k0 to k7 are xored into R1 at the end of step 15, k8 to k15 at the end of step 16 (lines 13 and 14)
unfoldable pub start : (key iv : List ℕ) → Mode → Registers
start key iv m = into_r1 (drop 16 key) (initial (into_r1 (take 16 key) (initials 15 (load key iv m))))

-- the state that start gives: no block is drawn yet (document 02, S-2: "0 at the start")
abbrev pub started : (key iv : List ℕ) → Mode → State
started key iv m = record { registers = start key iv m; count = 0 }

-- block i of the keystream in sealed mode: what step i + 1 behind the start gives
abbrev pub sealed_keystream : (key iv : List ℕ) → ℕ → List ℕ
sealed_keystream key iv i = z (moves forward i (start key iv sealed))

-- 1, 2
unfoldable pub start_number : (key iv : List ℕ) → ℕ
start_number key iv = refuse (not (eqb (length key) 32)) key_length (refuse (not (eqb (length iv) 16)) iv_length 0)

-- all zero: what a refused start hands out in a state's place
abbrev pub blank : State
blank = record { registers = record { lfsr = record { a = replicate 16 0; b = replicate 16 0 }; r1 = zeros; r2 = zeros; r3 = zeros }; count = 0 }
