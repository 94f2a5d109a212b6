-- `bytes_c::mode_number` meets its contract, by the mode.
use mathlib.Core.Path.{sym, ap}
use Rattle.start.specs.declared.Mode as machine
use Rattle.start.specs.Machine.{mode_of}
use Rattle.bytes_c.specs.Modes.{mode_byte}
use Rattle.bytes_c.proofs.mode_number.Goals as goal

pub returns-in-Plain : goal.returns-in-Plain
returns-in-Plain c = ap (λ (m : machine.Mode). mode_byte (mode_of m)) (sym c.in-Plain.is)

pub returns-in-Sealed : goal.returns-in-Sealed
returns-in-Sealed c = ap (λ (m : machine.Mode). mode_byte (mode_of m)) (sym c.in-Sealed.is)
