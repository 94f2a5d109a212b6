-- `session::lent::masked_blocks` meets its contract: batch by batch, the blocks up to there are under keystream.
use Prim.Native.Nat.{◌-◌, min}
use mathlib.Core.Path.{◌≡◌}
use lib.ListN.{length}
use Rattle.cipher.specs.Machine.{registers_of}
use Rattle.session.proofs.Masked.{Masked}
use Rattle.session.proofs.lent.masked_blocks.Given as goal

-- the counter goes by sixteens, so that behind the last batch it may be past n
abbrev pub invariant-loop-i : goal.invariant-loop-i
invariant-loop-i l = Masked (registers_of l.fn.s) l.input l.initial.out (min l.i l.n) (registers_of l.t) l.out × (length l.stream ≡ 256)

abbrev pub decreases-loop-i : goal.decreases-loop-i
decreases-loop-i l = l.n - l.i
