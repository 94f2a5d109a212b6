-- How the code holds what the block of a suspended session says.
use Rattle.cipher.specs.Machine.{registers_of}
use Rattle.digest.specs.Machine.{sum_of}
use Rattle.suspended.specs.declared.Suspended as machine
use Rattle.layout.specs.Block.{Suspended}

abbrev pub suspended_of : machine.Suspended → Suspended
suspended_of f = record { phase = f.phase; ad = f.ad; text = f.text; registers = registers_of f.registers; sum = sum_of f.held }
