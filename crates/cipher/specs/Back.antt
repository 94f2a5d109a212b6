-- One step back (document 01, "Round, step and step back"): the registers whose step leads here. These definitions need not be believed by
-- reading: `StepsBack` of Laws.antt says that `back` is the one inverse of `step` on all registers.
use Rattle.std.specs.Prelude.{ℕ, List, take}
use Rattle.words.specs.Xor.{xors}
use Rattle.words.specs.Bytes.{littles}
use Rattle.words.specs.Sums.{◌⊞◌}
use Rattle.words.specs.Differences.{◌⊟◌}
use Rattle.aes.specs.Unround.{unround}
use Rattle.lfsr.specs.Clock.{snow_v}
use Rattle.lfsr.specs.Unclock.{solved_v, unclocks}
use Rattle.cipher.specs.Registers.{Registers}
use Rattle.cipher.specs.Step.{sigma}

-- The clocks are undone first: R3 had the old a0 to a7 xored in.
unfoldable pub back : Registers → Registers
back s =
    let old = unclocks snow_v solved_v 8 s.lfsr in
    record {
      lfsr = old;
      r1 = unround s.r2;
      r2 = unround s.r3;
      r3 = xors (sigma s.r1 ⊟ unround s.r3) (littles 2 (take 8 old.a));
    }

-- The z of the step that led here, without register A: R1 and R2 were what `unround` gives, and T1 is b0 to b7 by now. (`z_before_step` of
-- proofs/Inverse.antt: it is `z` of the registers before.)
unfoldable pub z_before : Registers → List ℕ
z_before s = xors (unround s.r2 ⊞ littles 2 (take 8 s.lfsr.b)) (unround s.r3)
