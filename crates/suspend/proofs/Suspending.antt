-- The three answers of a suspend, by phase and room.
use mathlib.Core.Path.{◌≡◌}
use mathlib.Core.List.{List, ◌++◌}
use Prim.Native.Nat.{ℕ, ◌≤◌, ◌<◌}
use borrow.Author.Tests.{lt-ltb, le-ltb}
use lib.ListN.{length, drop}
use Rattle.session.specs.Session.{Session}
use Rattle.layout.specs.Block.{block_of}
use Rattle.suspend.specs.Calls.{suspension_of, suspend_number, suspend_call}

module _ (s : Session) (out : List ℕ) where
  pub finished_number : 2 ≤ s.phase → suspend_number s out ≡ 7
  unfolding suspend_number
  finished_number h = rw (le-ltb s.phase 2 h)

  pub short_number : s.phase < 2 → length out < 512 → suspend_number s out ≡ 4
  unfolding suspend_number
  short_number h k = rw (lt-ltb s.phase 2 h, lt-ltb (length out) 512 k)

  pub accepted_number : s.phase < 2 → 512 ≤ length out → suspend_number s out ≡ 0
  unfolding suspend_number
  accepted_number h k = rw (lt-ltb s.phase 2 h, le-ltb (length out) 512 k)

  -- a refused call leaves the output, an accepted one writes the block
  pub finished_out : 2 ≤ s.phase → out ≡ (suspend_call s out).out
  unfolding suspend_call
  finished_out h = rw (finished_number h)

  pub short_out : s.phase < 2 → length out < 512 → out ≡ (suspend_call s out).out
  unfolding suspend_call
  short_out h k = rw (short_number h k)

  pub accepted_out : s.phase < 2 → 512 ≤ length out → block_of (suspension_of s) ++ drop 512 out ≡ (suspend_call s out).out
  unfolding suspend_call
  accepted_out h k = rw (accepted_number h k)
