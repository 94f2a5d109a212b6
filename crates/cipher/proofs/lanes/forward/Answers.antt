-- `cipher::lanes::forward` meets its contract: a batch of one step has its block in the whole of the buffer.
use mathlib.Core.Path.{◌≡◌, ap, ◌∙◌}
use native.Mathlib.Omega.{arith}
use lib.ListN.{length, replicate}
use lib.Seq.{sets}
use Rattle.words.specs.Bytes.{part}
use Rattle.cipher.specs.Run.{forward, moves, made}
use Rattle.cipher.specs.Machine.{registers_of}
use Rattle.cipher.proofs.Typed.{every_registers}
use Rattle.cipher.proofs.Moves.{made_block, blocks_one}
use Rattle.words.proofs.Writing.{read_written}
use Rattle.cipher.proofs.lanes.forward.Goals as goal

pub returns : goal.returns
unfolding moves
returns c =
    let S = registers_of c.args.s in
    let w = c.batch-n.ensures in
    let n : length (made forward S) ≡ 16 = (made_block forward S (every_registers c.args.s _ c.well_formed.0)).long in
    record {
      registers = w.registers;
      z = c.load.ensures ∙ ap (part 0 16) (w.out ∙ ap (sets (replicate 16 0) 0) (blocks_one forward S)) ∙ read_written (replicate 16 0) 0 16 (made forward S) n (omega arith);
    }
