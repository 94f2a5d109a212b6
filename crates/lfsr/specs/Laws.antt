-- What is stated of the clock beside the contracts (SNOW-V paper, appendix A: the clock is one-to-one). `one_to_one` of proofs/OneToOne.antt proves it.
use Rattle.std.specs.Prelude.{◌≡◌}
use Rattle.lfsr.specs.Clock.{Lfsr, snow_v, clock, IsLfsr}
use Rattle.lfsr.specs.Unclock.{solved_v, unclock}

pub record OneToOne : Type 0 where
  -- no two registers clock to the same
  pub one : (s t : Lfsr) → IsLfsr s → IsLfsr t → clock snow_v s ≡ clock snow_v t → s ≡ t
  -- a clock and a clock back undo each other, either way round
  pub back : (s : Lfsr) → IsLfsr s → unclock snow_v solved_v (clock snow_v s) ≡ s
  pub forth : (s : Lfsr) → IsLfsr s → clock snow_v (unclock snow_v solved_v s) ≡ s
