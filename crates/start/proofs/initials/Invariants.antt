-- `start::initials` meets its contract: after i turns the lanes stand at step i of the start, and the registers A and B are its.
use mathlib.Core.Path.{◌≡◌}
use lib.ListN.{length}
use Rattle.words.specs.Machine.{bytes_of}
use Rattle.lfsr.specs.Machine.{lfsr_of}
use Rattle.cipher.specs.Machine.{registers_of}
use Rattle.start.proofs.Feeding.{Fed}
use Rattle.start.proofs.initials.Given as goal

abbrev pub invariant-loop-i : goal.invariant-loop-i
invariant-loop-i l =
    Fed (registers_of l.s) l.i l.l1 l.l2 (bytes_of l.r3) (lfsr_of l.l) × (length l.t1 ≡ 128) × (length l.t2 ≡ 128)
