-- `cipher::lanes::taps` meets its contract: after i turns the registers are i steps on, and the lanes have the taps of those i steps.
use Prim.Native.Nat.{◌≤◌}
use mathlib.Core.Path.{◌≡◌}
use Rattle.lfsr.specs.Machine.{lfsr_of}
use Rattle.cipher.specs.Inner.{clocked, Tapped}
use Rattle.cipher.proofs.lanes.taps.Given as goal

abbrev pub invariant-loop-i : goal.invariant-loop-i
invariant-loop-i l = (l.i ≤ l.n) × (lfsr_of l.m ≡ clocked l.i (lfsr_of l.initial.m)) × Tapped (lfsr_of l.initial.m) l.i l.t1 l.t2
