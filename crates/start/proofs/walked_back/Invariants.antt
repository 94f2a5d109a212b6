-- `start::walked_back` meets its contract: after i turns i steps are undone, and counted.
use Prim.Native.Nat.{◌+◌}
use mathlib.Core.Path.{◌≡◌}
use Rattle.cipher.specs.Run.{backward, moves}
use Rattle.cipher.specs.Machine.{registers_of}
use Rattle.start.proofs.walked_back.Given as goal

abbrev pub invariant-loop-i : goal.invariant-loop-i
invariant-loop-i l = (registers_of l.t ≡ moves backward l.i (registers_of l.initial.t)) × (l.steps ≡ l.walked + l.i)
