-- What a refusal leaves and an accepted call gives, whatever the call, and how a buffer's length decides an answer.
use mathlib.Core.Path.{◌≡◌, ◌∙◌}
use mathlib.Core.List.{List, ◌++◌}
use Prim.Native.Nat.{ℕ, suc, ◌≤◌, ◌<◌}
use native.Mathlib.Omega.{arith}
use borrow.Author.Tests.{ne_eqb, lt-ltb, le-ltb}
use lib.ListN.{length, drop}
use Rattle.scope.specs.Refusals.{granted}
use Rattle.bytes_c.specs.Order.{room, buffer_after}

pub never : (k : ℕ) → ¬ (suc k ≡ 0)
never k e = omega arith

-- ---- r is what the code answers, n what the definition says

module _ {r n : ℕ} (e : r ≡ n) where
  pub refused : {A : Type 0} (a b : A) → ¬ (r ≡ 0) → b ≡ granted n a b
  refused a b h = rw (ne_eqb n 0 (λ z. h (e ∙ z)))

  pub unwritten : (k : ℕ) (v out : List ℕ) → ¬ (r ≡ 0) → out ≡ buffer_after n k v out
  unwritten k v out h = refused (v ++ drop k out) out h

module _ {n : ℕ} (e : 0 ≡ n) where
  pub accepted : {A : Type 0} (a b : A) → a ≡ granted n a b
  accepted a b = rw (← e)

-- ---- the test

module _ (k : ℕ) (out : List ℕ) (later : ℕ) where
  pub short : length out < k → 4 ≡ room k out later
  short h = rw (lt-ltb (length out) k h)

  pub fits : k ≤ length out → later ≡ room k out later
  fits h = rw (le-ltb (length out) k h)
