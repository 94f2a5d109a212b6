-- What an order of refusals that comes to 0 says of its tests.
use mathlib.Core.Path.{◌≡◌, refl}
use mathlib.Core.Bool.{Bool, true, false}
use Prim.Native.Nat.{ℕ, ◌<◌}
use native.Mathlib.Omega.{arith}
use Rattle.scope.specs.Refusals.{refuse}

-- the first of them does not hold, and what comes later comes to 0
pub refuse_none : (c : Bool) (n later : ℕ) → 0 < n → refuse c n later ≡ 0 → (c ≡ false) × (later ≡ 0)
refuse_none true n later k e = absurd (omega arith)
refuse_none false n later k e = (refl, e)
