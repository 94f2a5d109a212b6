-- `tulvekas::fill` meets its contract: the run writes the blocks at the front, and they fill as many bytes.
use Rattle.cipher.proofs.Typed.{every_registers}
use Rattle.tulvekas.proofs.CipherAnswers.{run_fills}
use Rattle.tulvekas.proofs.fill.Goals as goal

pub returns : goal.returns
returns c = run_fills _ (every_registers c.args.s _ c.well_formed.0) c.args.out.now _ c.run_forward.ensures.out
