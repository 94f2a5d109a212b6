-- `pass::sealed_batch` meets its contract: after i turns, of every pass whose blocks these are, i blocks more are written and hashed, and the lanes stand
-- at step i.
use Prim.Native.Nat.{◌*◌, ◌≤◌}
use mathlib.Core.Path.{◌≡◌}
use lib.ListN.{length}
use Rattle.words.specs.Machine.{bytes_of}
use Rattle.ghash.specs.Machine.{bytes_of_element}
use Rattle.cipher.specs.Run.{forward, moves}
use Rattle.cipher.specs.Machine.{registers_of}
use Rattle.cipher.proofs.Standing.{Standing}
use Rattle.pass.specs.Pass.{Sealed}
use Rattle.pass.proofs.sealed_batch.Given as goal

abbrev pub invariant-loop-i : goal.invariant-loop-i
invariant-loop-i l =
    Sealed (bytes_of_element l.h) (registers_of l.s) l.text l.from l.n l.initial.out (bytes_of_element l.initial.y) l.i l.out (bytes_of_element l.y)
    × (l.i ≤ l.n) × (length l.out ≡ length l.initial.out)
    × Standing (moves forward l.i (registers_of l.s)) (16 * l.i) l.l1 l.l2 (bytes_of l.r3) × (length l.m ≡ 512)
