-- The next comes before every other. Of those behind a stay that is overtaken the next comes before it too: it is whoever overtook, or comes before that one. So by going through the
-- stays from the last to the first the place found comes before every other.
use mathlib.Core.Path.{◌≡◌, refl}
use mathlib.Core.List.{List, [], ◌∷◌}
use mathlib.Core.Bool.{true, false, and-false}
use mathlib.Core.Logic.{inl, inr}
use Prim.Native.Nat.{ℕ, zero, suc, ◌≤◌, ◌<◌}
use native.Mathlib.Omega.{arith}
use borrow.Author.Tests.{ltb-true, ltb-false, eqb-true, eqb-false, le-ltb}
use lib.Dec.{eqb, ltb}
use lib.ListN.{length}
use Rattle.scheduler.specs.Scheduler.{Stay, Order, joining_order, goes_before, overtaken, place, at}
use Rattle.scheduler.proofs.Order.{on_test, of_picked, Lower, NoLater, carries, overtaken_none, overtaken_some}
use Rattle.claims_scheduler.specs.Fairness.{Before}

-- place i comes before every other
abbrev Least : Order → List Stay → ℕ → Type 0
Least o l i = (j : ℕ) → j < length l → ¬ (j ≡ i) → Before o l i j

module _ (o : Order) (x : Stay) (l : List Stay) where
  -- the next of those behind x comes before it, where one of them does
  ahead : Least o l (place o l) → overtaken o x l ≡ true → Lower o (at l (place o l)) x
  ahead below e = go (overtaken_some o x l e)
    where
      no_later : (j : ℕ) → Before o l (place o l) j → NoLater o (at l (place o l)) (at l j)
      no_later j (inl m) = inl m
      no_later j (inr (m, inl r)) = inr (m, omega arith)
      no_later j (inr (m, inr r)) = inr (m, omega arith)

      go : (j : ℕ) × (j < length l) × Lower o (at l j) x → Lower o (at l (place o l)) x
      go (j, h, w) =
          on_test (eqb j (place o l)) (λ p. rw (eqb-true j (place o l) p) at w)
          (λ p. carries o (at l (place o l)) (at l j) x (no_later j (below j h (eqb-false _ _ p))) w)

  -- and then it is the next of all
  behind : (i : ℕ) → Least o l i → Lower o (at l i) x → Least o (x ∷ l) (suc i)
  behind i below (inl m) zero h n = inl m
  behind i below (inr (m, r)) zero h n = inr (m, inl r)
  behind i below w (suc j) h n = deeper (below j (omega arith) (omega arith))
    where
      deeper : Before o l i j → Before o (x ∷ l) (suc i) (suc j)
      deeper (inl m) = inl m
      deeper (inr (m, inl r)) = inr (m, inl r)
      deeper (inr (m, inr (r, k))) = inr (m, inr (r, omega arith))

  -- where none of them does, x is
  first : ((j : ℕ) → j < length l → NoLater o x (at l j)) → Least o (x ∷ l) 0
  first below zero h n = absurd (n refl)
  first below (suc j) h n = go (below j (omega arith))
    where
      go : NoLater o x (at l j) → Before o (x ∷ l) 0 (suc j)
      go (inl m) = inl m
      go (inr (m, r)) = inr (m, on_test (ltb (o x) (o (at l j))) (λ p. inl (ltb-true _ _ p)) (λ p. inr (omega (arith, ltb-false (o x) (o (at l j)) p), omega arith)))

pub least : (o : Order) (l : List Stay) → Least o l (place o l)
unfolding place
least o [] = λ j h n. absurd (omega arith)
least o (x ∷ l) =
    of_picked (Least o (x ∷ l)) (overtaken o x l) (λ p. behind o x l (place o l) (least o l) (ahead o x l (least o l) p))
    (λ p. first o x l (overtaken_none o x l p))

-- no stay has a lower mark
pub lowest : (o : Order) (l : List Stay) (j : ℕ) → j < length l → (at l (place o l)).mark ≤ (at l j).mark
lowest o l j h = on_test (eqb j (place o l)) (λ p. rw (eqb-true j (place o l) p) (omega arith)) (λ p. go (least o l j h (eqb-false _ _ p)))
  where
    go : Before o l (place o l) j → (at l (place o l)).mark ≤ (at l j).mark
    go (inl m) = omega arith
    go (inr e) = omega (arith, e.0)

-- by joining order a stay does not come before one whose mark is no higher
pub comes_later : (x y : Stay) → y.mark ≤ x.mark → goes_before joining_order x y ≡ false
unfolding goes_before
comes_later x y h = rw (le-ltb x.mark y.mark h) (and-false (eqb x.mark y.mark))
