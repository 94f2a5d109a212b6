-- One step of SNOW-V (paper, section 2, equations (5) to (11), Algorithms 2, 3 and 4; document 01, "Round, step and step back").
use Rattle.std.specs.Prelude.{ℕ, List, [], ◌∷◌, take, drop}
use Rattle.words.specs.Xor.{xors}
use Rattle.words.specs.Bytes.{littles}
use Rattle.words.specs.Sums.{◌⊞◌}
use Rattle.aes.specs.Round.{gathered, round}
use Rattle.lfsr.specs.Clock.{snow_v, clocks}
use Rattle.cipher.specs.Registers.{Registers}

-- the tap T1: cells b8 to b15 as a block, b8 the least significant (5)
unfoldable pub T1 : Registers → List ℕ
T1 s = littles 2 (drop 8 s.lfsr.b)

-- the tap T2: cells a0 to a7 as a block, a0 the least significant (6)
unfoldable pub T2 : Registers → List ℕ
T2 s = littles 2 (take 8 s.lfsr.a)

-- σ: result byte i is the input byte at the i-th of these places (11)
unfoldable pub sigma : List ℕ → List ℕ
sigma x = gathered (0 ∷ 4 ∷ 8 ∷ 12 ∷ 1 ∷ 5 ∷ 9 ∷ 13 ∷ 2 ∷ 6 ∷ 10 ∷ 14 ∷ 3 ∷ 7 ∷ 11 ∷ 15 ∷ []) x

-- the step's block z (7)
unfoldable pub z : Registers → List ℕ
z s = xors (s.r1 ⊞ T1 s) s.r2

-- R1 to R3 (8), (9), (10), all from the old registers; then 8 clocks (Algorithm 3)
unfoldable pub step : Registers → Registers
step s =
    record {
      lfsr = clocks snow_v 8 s.lfsr;
      r1 = sigma (s.r2 ⊞ xors s.r3 (T2 s));
      r2 = round s.r1;
      r3 = round s.r2;
    }
