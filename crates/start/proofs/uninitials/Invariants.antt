-- `start::uninitials` meets its contract: what is left to undo leads where the whole leads, and each step undone is counted.
use Prim.Native.Nat.{◌+◌, ◌-◌}
use mathlib.Core.Path.{◌≡◌}
use Rattle.cipher.specs.Machine.{registers_of}
use Rattle.start.specs.Trace.{uninitials}
use Rattle.start.proofs.uninitials.Given as goal

abbrev pub invariant-loop-i : goal.invariant-loop-i
invariant-loop-i l =
    (uninitials (l.n - l.i) (registers_of l.t) ≡ uninitials l.n (registers_of l.initial.t)) × (l.undone ≡ l.walked + l.i)
