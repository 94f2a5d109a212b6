-- The mode of a start, as C hands it over and is told it (document 01, "Start and trace"; the numbers are include/tulvekas.h's).
use Rattle.std.specs.Prelude.{ℕ, eqb}
use Rattle.scope.specs.Refusals.{pick}
use Rattle.start.specs.Start.{Mode, Mode.plain, Mode.sealed}

-- a mode as C names it: 0 plain, any other number sealed
abbrev pub mode_named : ℕ → Mode
mode_named n = pick (eqb n 0) plain sealed

-- a mode as C is told it
abbrev pub mode_byte : Mode → ℕ
mode_byte plain = 0
mode_byte sealed = 1
