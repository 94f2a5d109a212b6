-- How the code holds the two registers: `lfsr_of` says which they are, and contracts speak of those.
use Rattle.lfsr.specs.declared.Lfsr as machine
use Rattle.lfsr.specs.Clock.{Lfsr}

abbrev pub lfsr_of : machine.Lfsr → Lfsr
lfsr_of s = record { a = s.a; b = s.b }
