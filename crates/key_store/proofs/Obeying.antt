-- The layout rules one by one: a block that obeys all obeys each, and one broken rule breaks all.
use mathlib.Core.Path.{◌≡◌, sym}
use mathlib.Core.Bool.{Bool, true, false, ◌&&◌, and-true, and_assoc}
use mathlib.Core.List.{List, [], ◌∷◌}
use Prim.Native.Nat.{ℕ}
use borrow.Author.Tests.{eqb-true}
use lib.ListN.{length, get_or}
use Rattle.fields.specs.Fields.{every}
use Rattle.fields.proofs.Every.{every_at, every_not}
use Rattle.key_store.specs.Layout.{rules, well_laid}

-- rule i of a block that obeys them
pub rule : (b : List ℕ) (i : ℕ) → well_laid b ≡ true → get_or (rules b) i true ≡ true
rule b i e = every_at (rules b) e i

pub broken : (b : List ℕ) (i : ℕ) → get_or (rules b) i true ≡ false → false ≡ well_laid b
broken b i e = sym (every_not (rules b) i e)

pub laid_long : (b : List ℕ) → well_laid b ≡ true → length b ≡ 512
unfolding rules
laid_long b e = eqb-true (length b) 512 (rule b 0 e)

-- with 512 bytes, the tests of the other rules, combined by &, are the answer
pub tested : {b0 b1 b2 b3 b4 b5 b6 t1 t2 t3 t4 t5 t6 : Bool} → b0 ≡ true → t1 ≡ b1 → t2 ≡ b2 → t3 ≡ b3 → t4 ≡ b4 → t5 ≡ b5 → t6 ≡ b6
    → (t1 && t2 && t3 && t4 && t5 && t6) ≡ every (b0 ∷ b1 ∷ b2 ∷ b3 ∷ b4 ∷ b5 ∷ b6 ∷ [])
unfolding every
tested e0 e1 e2 e3 e4 e5 e6 = rw (e0, e1, e2, e3, e4, e5, e6) (simp (and_assoc, and-true))

-- all seven hold
pub seven : {b0 b1 b2 b3 b4 b5 b6 : Bool} → b0 ≡ true → b1 ≡ true → b2 ≡ true → b3 ≡ true → b4 ≡ true → b5 ≡ true → b6 ≡ true
    → every (b0 ∷ b1 ∷ b2 ∷ b3 ∷ b4 ∷ b5 ∷ b6 ∷ []) ≡ true
unfolding every
seven e0 e1 e2 e3 e4 e5 e6 = rw (e0, e1, e2, e3, e4, e5, e6)
