-- `lfsr::clock8` meets its contract: at each turn the cells made are those of the definition.
use Rattle.lfsr.specs.Clock.{snow_v}
use Rattle.lfsr.proofs.Window.{Turn}
use Rattle.lfsr.proofs.clock8.Given as goal

abbrev pub invariant-loop-i : goal.invariant-loop-i
invariant-loop-i l = Turn snow_v l.s.a l.s.b l.i l.r.a l.r.b
