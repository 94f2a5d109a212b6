-- `scheduler::empty` meets its contract, by its test.
use mathlib.Core.Path.{◌≡◌, ◌∙◌}
use mathlib.Core.List.{List, ◌++◌}
use Prim.Native.Nat.{ℕ, ◌≤◌, ◌<◌}
use lib.ListN.{length, drop, replicate}
use Rattle.bytes_c.specs.Order.{room, buffer_after}
use Rattle.bytes_c.proofs.Answering.{never, unwritten, accepted, short, fits}
use Rattle.scheduler.specs.Bytes.{empty_answer, empty_writes, zeroed}
use Rattle.scheduler.proofs.empty.Goals as goal

-- over the length, so that nobody lays the zeros out
emptied : (n : ℕ) (s r : List ℕ) → n ≤ length s → r ≡ zeroed n s → (0 ≡ room n s 0) × (r ≡ buffer_after (room n s 0) n (replicate n 0) s)
unfolding zeroed
emptied n s r h e = let f = fits n s 0 h in (f, e ∙ accepted f (replicate n 0 ++ drop n s) s)

kept : (n : ℕ) (s : List ℕ) → length s < n → (4 ≡ room n s 0) × (s ≡ buffer_after (room n s 0) n (replicate n 0) s)
kept n s h = let e = short n s 0 h in (e, unwritten e n (replicate n 0) s (never 3))

pub returns-then-scheduler-lt-SCHEDULER_BYTES : goal.returns-then-scheduler-lt-SCHEDULER_BYTES
unfolding empty_answer empty_writes
returns-then-scheduler-lt-SCHEDULER_BYTES c = let p = (kept 8208 c.args.scheduler.now c.if-scheduler-lt-SCHEDULER_BYTES.true) in record { answer = p.0; scheduler = p.1 }

pub returns : goal.returns
unfolding empty_answer empty_writes
returns c = let p = (emptied 8208 c.args.scheduler.now _ c.if-scheduler-lt-SCHEDULER_BYTES.false c.zero_front.ensures) in record { answer = p.0; scheduler = p.1 }
