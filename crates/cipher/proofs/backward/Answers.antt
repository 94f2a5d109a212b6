-- `cipher::backward` meets its contract: the z that is made without register A is the z of the state before.
use mathlib.Core.Path.{◌∙◌}
use Rattle.cipher.specs.Run.{move, made}
use Rattle.cipher.specs.Machine.{registers_of}
use Rattle.cipher.proofs.Inverse.{z_before_is}
use Rattle.cipher.proofs.Typed.{every_registers}
use Rattle.cipher.proofs.backward.Goals as goal

pub returns : goal.returns
unfolding move made
returns c =
    record {
      registers = c.registers_before.ensures;
      z = c.z_before-p.ensures.z ∙ z_before_is (registers_of c.args.s) (every_registers c.args.s _ c.well_formed.0);
    }
