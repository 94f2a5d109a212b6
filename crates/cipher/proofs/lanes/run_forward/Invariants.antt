-- `cipher::lanes::run_forward` meets its contract: batch by batch, the steps so far are made and their blocks written.
use Prim.Native.Nat.{◌-◌, min}
use Rattle.cipher.specs.Run.{forward}
use Rattle.cipher.specs.Machine.{registers_of}
use Rattle.cipher.proofs.Running.{Made}
use Rattle.cipher.proofs.lanes.run_forward.Given as goal

-- the counter goes by sixteens, so that behind the last batch it may be past n
abbrev pub invariant-loop-i : goal.invariant-loop-i
invariant-loop-i l = Made forward (registers_of l.initial.t) l.initial.out 0 l.n (min l.i l.n) (registers_of l.t) l.out

abbrev pub decreases-loop-i : goal.decreases-loop-i
decreases-loop-i l = l.n - l.i
