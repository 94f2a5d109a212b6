-- `pass::sealed_blocks` meets its contract: after each batch, of every pass whose blocks these are, the blocks up to there are written and hashed. Within a
-- batch the same holds after every block.
use Prim.Native.Nat.{◌-◌, min}
use mathlib.Core.Path.{◌≡◌}
use lib.ListN.{length}
use Rattle.ghash.specs.Machine.{bytes_of_element}
use Rattle.cipher.specs.Run.{forward, moves}
use Rattle.cipher.specs.Machine.{registers_of}
use Rattle.pass.specs.Pass.{Sealed}
use Rattle.pass.proofs.sealed_blocks.Given as goal

-- the counter goes by sixteens, so that behind the last batch it may be past n
abbrev pub invariant-loop-i : goal.invariant-loop-i
invariant-loop-i l =
    Sealed (bytes_of_element l.h) (registers_of l.initial.u.registers) l.text l.from l.n l.initial.out (bytes_of_element l.initial.u.hash) (min l.i l.n) l.out (bytes_of_element l.u.hash)
    × (length l.out ≡ length l.initial.out) × (registers_of l.u.registers ≡ moves forward (min l.i l.n) (registers_of l.initial.u.registers))

abbrev pub decreases-loop-i : goal.decreases-loop-i
decreases-loop-i l = l.n - l.i
