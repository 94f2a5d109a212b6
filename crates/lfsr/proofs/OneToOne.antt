-- SNOW-V's clock is one-to-one: its taps are lawful.
use Rattle.lfsr.specs.Laws.{OneToOne}
use Rattle.lfsr.proofs.Back.{clock_one, unclock_clock, clock_unclock}
use Rattle.lfsr.proofs.SnowV.{lawful_v}

pub one_to_one : OneToOne
one_to_one = record { one = clock_one lawful_v; back = unclock_clock lawful_v; forth = clock_unclock lawful_v }
