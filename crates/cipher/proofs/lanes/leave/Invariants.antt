-- `cipher::lanes::leave` meets its contract: what is left to put makes of the lane what all eight cells make of it.
use Prim.Native.Nat.{◌+◌, ◌≤◌}
use mathlib.Core.Path.{◌≡◌}
use lib.ListN.{length}
use lib.Seq.{sets, slice}
use Rattle.cipher.proofs.lanes.leave.Given as goal

abbrev pub invariant-loop-j : goal.invariant-loop-j
invariant-loop-j l = (l.j ≤ 8) × (length l.t ≡ 128) × (sets l.t (l.at + l.j) (slice (l.from + l.j) (l.from + 8) l.c) ≡ sets l.initial.t l.at (slice l.from (l.from + 8) l.c))
