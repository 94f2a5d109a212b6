-- `cipher::lanes::batch` meets its contract: after i turns the lanes stand at step i, and the blocks of i steps are written.
use Prim.Native.Nat.{◌*◌}
use Rattle.words.specs.Machine.{bytes_of}
use Rattle.cipher.specs.Run.{forward, moves}
use Rattle.cipher.specs.Machine.{registers_of}
use Rattle.cipher.proofs.Running.{Made}
use Rattle.cipher.proofs.Standing.{Standing}
use Rattle.cipher.proofs.lanes.batch.Given as goal

abbrev pub invariant-loop-i : goal.invariant-loop-i
invariant-loop-i l =
    Made forward (registers_of l.s) l.initial.out l.from l.n l.i (moves forward l.i (registers_of l.s)) l.out × Standing (moves forward l.i (registers_of l.s)) (16 * l.i) l.l1 l.l2 (bytes_of l.r3)
