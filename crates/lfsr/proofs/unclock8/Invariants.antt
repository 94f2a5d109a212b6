-- `lfsr::unclock8` meets its contract: at each turn the cells from i on are those that eight clocks take to s.
use Rattle.lfsr.specs.Clock.{snow_v}
use Rattle.lfsr.proofs.Unwind.{Undone}
use Rattle.lfsr.proofs.unclock8.Given as goal

abbrev pub invariant-loop-i : goal.invariant-loop-i
invariant-loop-i l = Undone snow_v l.s.a l.s.b l.i l.a l.b
