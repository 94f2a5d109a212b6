-- Equations, bounds and tables by a test that antt computes at each byte.
use mathlib.Core.Path.{◌≡◌}
use mathlib.Core.List.{List}
use Prim.Native.Nat.{ℕ, ◌<◌}
use lib.Dec.{T, eqb, ltb, eqb→eq, ltb→lt}
use lib.ListN.{get_or}
use Rattle.words.proofs.Tests.{passes, below}
use Rattle.aes.specs.Tables.{Holds}

-- an equation at each byte
pub each : (f g : ℕ → ℕ) → T (passes (λ x. eqb (f x) (g x)) 256) → (x : ℕ) → x < 256 → f x ≡ g x
each f g t x h = eqb→eq (f x) (g x) (below (λ y. eqb (f y) (g y)) 256 t x h)

-- a bound at each byte
pub each_lt : (f : ℕ → ℕ) → T (passes (λ x. ltb (f x) 256) 256) → (x : ℕ) → x < 256 → f x < 256
each_lt f t x h = ltb→lt (f x) 256 (below (λ y. ltb (f y) 256) 256 t x h)

-- a table that is right at each byte
pub holds : (f : ℕ → ℕ) (t : List ℕ) → T (passes (λ b. eqb (get_or t b 0) (f b)) 256) → Holds f t
holds f t p = record { rule = each (λ b. get_or t b 0) f p }
