-- `scheduler::next_place` meets its contract: at each turn the best so far is the next among the places looked at (`place_more`).
use mathlib.Core.Path.{◌≡◌}
use Prim.Native.Nat.{◌≤◌}
use lib.ListN.{drop}
use Rattle.scheduler.specs.Scheduler.{scheduler_order, place}
use Rattle.scheduler.specs.Bytes.{stays_in}
use Rattle.scheduler.proofs.next_place.Given as goal

abbrev pub invariant-loop-i : goal.invariant-loop-i
invariant-loop-i l = (l.best ≤ l.i) × (l.best ≡ place scheduler_order (stays_in l.i (drop 16 l.s)))
