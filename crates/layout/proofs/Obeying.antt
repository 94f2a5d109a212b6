-- The layout rules one by one: a block that obeys all obeys each, and one broken rule breaks all.
use mathlib.Core.Path.{◌≡◌, sym}
use mathlib.Core.Bool.{Bool, true, false, ◌&&◌, and-true, and_assoc}
use mathlib.Core.List.{List, [], ◌∷◌}
use Prim.Native.Nat.{ℕ, ◌≤◌}
use borrow.Author.Tests.{eqb-true, leb-true}
use lib.ListN.{length, get_or}
use Rattle.scope.specs.Limits.{most_text}
use Rattle.layout.specs.Block.{read}
use Rattle.fields.specs.Fields.{every}
use Rattle.fields.proofs.Every.{every_at, every_not}
use Rattle.layout.specs.Rules.{rules, well_laid}

-- rule i of a block that obeys them
pub rule : (s : List ℕ) (i : ℕ) → well_laid s ≡ true → get_or (rules s) i true ≡ true
rule s i e = every_at (rules s) e i

pub broken : (s : List ℕ) (i : ℕ) → get_or (rules s) i true ≡ false → false ≡ well_laid s
broken s i e = sym (every_not (rules s) i e)

pub laid_long : (s : List ℕ) → well_laid s ≡ true → length s ≡ 512
unfolding rules
laid_long s e = eqb-true (length s) 512 (rule s 0 e)

pub laid_text : (s : List ℕ) → well_laid s ≡ true → (read s).text ≤ most_text
unfolding rules
laid_text s e = leb-true (read s).text most_text (rule s 3 e)

-- with 512 bytes, the tests of the other rules, combined by &, are the answer
pub tested : {b0 b1 b2 b3 b4 b5 b6 b7 b8 b9 t1 t2 t3 t4 t5 t6 t7 t8 t9 : Bool} → b0 ≡ true → t1 ≡ b1 → t2 ≡ b2 → t3 ≡ b3 → t4 ≡ b4 → t5 ≡ b5 → t6 ≡ b6
    → t7 ≡ b7 → t8 ≡ b8 → t9 ≡ b9
    → (t1 && t2 && t3 && t4 && t5 && t6 && t7 && t8 && t9) ≡ every (b0 ∷ b1 ∷ b2 ∷ b3 ∷ b4 ∷ b5 ∷ b6 ∷ b7 ∷ b8 ∷ b9 ∷ [])
unfolding every
tested e0 e1 e2 e3 e4 e5 e6 e7 e8 e9 = rw (e0, e1, e2, e3, e4, e5, e6, e7, e8, e9) (simp (and_assoc, and-true))

-- all ten hold
pub ten : {b0 b1 b2 b3 b4 b5 b6 b7 b8 b9 : Bool} → b0 ≡ true → b1 ≡ true → b2 ≡ true → b3 ≡ true → b4 ≡ true → b5 ≡ true → b6 ≡ true → b7 ≡ true
    → b8 ≡ true → b9 ≡ true → every (b0 ∷ b1 ∷ b2 ∷ b3 ∷ b4 ∷ b5 ∷ b6 ∷ b7 ∷ b8 ∷ b9 ∷ []) ≡ true
unfolding every
ten e0 e1 e2 e3 e4 e5 e6 e7 e8 e9 = rw (e0, e1, e2, e3, e4, e5, e6, e7, e8, e9)
