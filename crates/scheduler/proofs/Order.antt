-- Who comes next: the first that no later joiner comes before. Of those behind a stay that is overtaken the next comes before it too: it is whoever overtook, or comes before that one.
-- So with one stay more behind them the next is that one, if it comes before the next so far, and else the next so far.
use mathlib.Core.Path.{◌≡◌, refl, sym, ap, ◌∙◌}
use mathlib.Core.List.{List, [], ◌∷◌, ◌++◌}
use mathlib.Core.Bool.{Bool, true, false, ◌&&◌, ◌||◌, false≢true, or-false, or_assoc}
use mathlib.Core.Logic.{◌⊎◌, inl, inr}
use Prim.Native.Nat.{ℕ, zero, suc, ◌≤◌, ◌<◌}
use native.Mathlib.Omega.{arith}
use borrow.Author.Tests.{ltb-true, ltb-false, eqb-true, eqb-false}
use lib.Dec.{eqb, ltb}
use lib.ListN.{length, get_or-append}
use Rattle.scope.specs.Refusals.{pick}
use Rattle.words.proofs.Tests.{and_left, and_right, neither}
use Rattle.scheduler.specs.Scheduler.{Stay, Order, goes_before, overtaken, place, nobody, at}

-- ---- tests

pub on_test {ℓ} : {P : Type ℓ} (b : Bool) → (b ≡ true → P) → (b ≡ false → P) → P
on_test true f g = f refl
on_test false f g = g refl

-- what holds of either holds of the one picked
pub of_picked {ℓ} : {A : Type ℓ} (P : A → Type 0) (b : Bool) {x y : A} → (b ≡ true → P x) → (b ≡ false → P y) → P (pick b x y)
of_picked P true f g = f refl
of_picked P false f g = g refl

-- ---- the order in numbers

-- x comes before y, and y does not come before x
abbrev pub Lower : Order → Stay → Stay → Type 0
Lower o x y = (x.mark < y.mark) ⊎ ((x.mark ≡ y.mark) × (o x < o y))

abbrev pub NoLater : Order → Stay → Stay → Type 0
NoLater o x y = (x.mark < y.mark) ⊎ ((x.mark ≡ y.mark) × (o x ≤ o y))

module _ (o : Order) (x y : Stay) where
  pub before_true : goes_before o x y ≡ true → Lower o x y
  unfolding goes_before
  before_true e =
      on_test (ltb x.mark y.mark) (λ p. inl (ltb-true _ _ p))
      (λ p. let both : (eqb x.mark y.mark && ltb (o x) (o y)) ≡ true = rw p at e in
      inr (eqb-true _ _ (and_left _ (ltb (o x) (o y)) both), ltb-true _ _ (and_right (eqb x.mark y.mark) _ both)))

  pub before_false : goes_before o x y ≡ false → NoLater o y x
  unfolding goes_before
  before_false e =
      let w = neither (ltb x.mark y.mark) (eqb x.mark y.mark && ltb (o x) (o y)) e in
      on_test (eqb x.mark y.mark)
      (λ q. let rank : ltb (o x) (o y) ≡ false = rw q at w.1 in inr (sym (eqb-true _ _ q), ltb-false _ _ rank))
      (λ q. inl (omega (arith, ltb-false x.mark y.mark w.0, eqb-false x.mark y.mark q)))

  not_before : NoLater o y x → ¬ Lower o x y
  not_before (inl a) (inl b) = omega arith
  not_before (inl a) (inr b) = omega arith
  not_before (inr a) (inl b) = omega arith
  not_before (inr a) (inr b) = omega arith

  before : Lower o x y → goes_before o x y ≡ true
  before w = on_test (goes_before o x y) (λ p. p) (λ p. absurd (not_before (before_false p) w))

pub carries : (o : Order) (x y z : Stay) → NoLater o x y → Lower o y z → Lower o x z
carries o x y z (inl a) (inl b) = inl (omega arith)
carries o x y z (inl a) (inr b) = inl (omega arith)
carries o x y z (inr a) (inl b) = inl (omega arith)
carries o x y z (inr a) (inr b) = inr (omega arith)

later : (o : Order) (x y z : Stay) → Lower o x y → NoLater o y z → Lower o x z
later o x y z (inl a) (inl b) = inl (omega arith)
later o x y z (inl a) (inr b) = inl (omega arith)
later o x y z (inr a) (inl b) = inl (omega arith)
later o x y z (inr a) (inr b) = inr (omega arith)

-- ---- the next

pub overtaken_none : (o : Order) (x : Stay) (l : List Stay) → overtaken o x l ≡ false → (j : ℕ) → j < length l → NoLater o x (at l j)
unfolding overtaken
overtaken_none o x [] e j h = absurd (omega arith)
overtaken_none o x (y ∷ l) e zero h = before_false o y x (neither (goes_before o y x) (overtaken o x l) e).0
overtaken_none o x (y ∷ l) e (suc j) h = overtaken_none o x l (neither (goes_before o y x) (overtaken o x l) e).1 j (omega arith)

pub overtaken_some : (o : Order) (x : Stay) (l : List Stay) → overtaken o x l ≡ true → (j : ℕ) × (j < length l) × Lower o (at l j) x
unfolding overtaken
overtaken_some o x [] e = absurd (false≢true e)
overtaken_some o x (y ∷ l) e =
    on_test (goes_before o y x) (λ p. (0, omega arith, before_true o y x p))
    (λ p. let w = overtaken_some o x l (rw p at e) in (suc w.0, omega (arith, w.1), w.2))

pub is_there : (o : Order) (l : List Stay) → 0 < length l → place o l < length l
unfolding place
is_there o [] h = absurd (omega arith)
is_there o (x ∷ l) h =
    of_picked (λ (i : ℕ). i < suc (length l)) (overtaken o x l)
    (λ p. let w = overtaken_some o x l p in omega (arith, is_there o l (omega (arith, w.1)))) (λ p. omega arith)

-- ---- one more behind them

overtaken_behind : (o : Order) (x y : Stay) (l : List Stay) → overtaken o x (l ++ (y ∷ [])) ≡ (overtaken o x l || goes_before o y x)
unfolding overtaken
overtaken_behind o x y [] = or-false (goes_before o y x)
overtaken_behind o x y (z ∷ l) = rw (overtaken_behind o x y l, or_assoc)

either : {A : Type 0} (b : Bool) (a : A) → pick b a a ≡ a
either true a = refl
either false a = refl

through : {A B : Type 0} (f : A → B) (b : Bool) (x y : A) → f (pick b x y) ≡ pick b (f x) (f y)
through f true x y = refl
through f false x y = refl

-- y comes before x, before which none of l comes: so y is the next of l and itself
leads : (o : Order) (x y : Stay) (l : List Stay) → overtaken o x l ≡ false → Lower o y x
    → pick (goes_before o y (at (l ++ (y ∷ [])) (place o l))) (length l) (place o l) ≡ length l
unfolding place
leads o x y [] e w = either (goes_before o y y) 0
leads o x y (z ∷ l) e w =
    let i = place o (z ∷ l) in
    let h = is_there o (z ∷ l) (omega arith) in
    let g : at ((z ∷ l) ++ (y ∷ [])) i ≡ at (z ∷ l) i = get_or-append (z ∷ l) (y ∷ []) nobody i h in
    let b : goes_before o y (at (z ∷ l) i) ≡ true = before o y (at (z ∷ l) i) (later o y x (at (z ∷ l) i) w (overtaken_none o x (z ∷ l) e i h)) in
    ap (λ (s : Stay). pick (goes_before o y s) (length (z ∷ l)) i) g ∙ rw b

pub place_more : (o : Order) (l : List Stay) (y : Stay)
    → place o (l ++ (y ∷ [])) ≡ pick (goes_before o y (at (l ++ (y ∷ [])) (place o l))) (length l) (place o l)
unfolding place overtaken
place_more o [] y = sym (either (goes_before o y y) 0)
place_more o (x ∷ l) y = rw (overtaken_behind o x y l) (go (place_more o l y) (overtaken o x l) refl)
  where
    go : place o (l ++ (y ∷ [])) ≡ pick (goes_before o y (at (l ++ (y ∷ [])) (place o l))) (length l) (place o l)
        → (b : Bool) → overtaken o x l ≡ b
        → pick (b || goes_before o y x) (suc (place o (l ++ (y ∷ [])))) 0
        ≡ pick (goes_before o y (at (x ∷ (l ++ (y ∷ []))) (pick b (suc (place o l)) 0))) (suc (length l)) (pick b (suc (place o l)) 0)
    go below true p = ap suc below ∙ through suc (goes_before o y (at (l ++ (y ∷ [])) (place o l))) (length l) (place o l)
    go below false p = tie (goes_before o y x) refl
      where
        tie : (d : Bool) → goes_before o y x ≡ d → pick d (suc (place o (l ++ (y ∷ [])))) 0 ≡ pick d (suc (length l)) 0
        tie true q = ap suc (below ∙ leads o x y l p (before_true o y x q))
        tie false q = refl
