-- Lists of stays: members, how many have at most a mark, and one stay replaced.
use mathlib.Core.Path.{◌≡◌, refl, sym, ap, ◌∙◌}
use mathlib.Core.List.Memᴰ
use mathlib.Core.List.{List, [], ◌∷◌, ◌++◌, Memᴰ}
use mathlib.Core.Logic.{◌⊎◌, inl, inr, ⊎_elim}
use Prim.Native.Nat.{ℕ, zero, suc, ◌+◌, ◌≤◌, ◌<◌}
use native.Mathlib.Omega.{arith}
use borrow.Author.Tests.{le-leb, lt-leb}
use lib.Dec.{leb}
use lib.ListN.{length, length-append}
use Rattle.scope.specs.Refusals.{pick}
use Rattle.scheduler.specs.Scheduler.{Stay, at}
use Rattle.scheduler.proofs.Order.{of_picked}

-- ---- members and places

abbrev pub Among : Stay → List Stay → Type 0
Among x l = Memᴰ x l

pub place_of : {x : Stay} {l : List Stay} → Among x l → (i : ℕ) × (i < length l) × (at l i ≡ x)
place_of (Memᴰ.head e) = (0, omega arith, sym e)
place_of (Memᴰ.tail m) = let w = place_of m in (suc w.0, omega (arith, w.1), w.2)

pub at_among : (l : List Stay) (i : ℕ) → i < length l → Among (at l i) l
at_among [] i h = absurd (omega arith)
at_among (x ∷ l) zero h = Memᴰ.head refl
at_among (x ∷ l) (suc i) h = Memᴰ.tail (at_among l i (omega arith))

-- with one more behind them
pub was_or_last : (l : List Stay) (x y : Stay) → Among y (l ++ (x ∷ [])) → Among y l ⊎ (y ≡ x)
was_or_last l x y m = ⊎_elim inl (λ n. inr (Memᴰ.eq_of_singleton n)) (Memᴰ.append_cases l m)

-- ---- how many have at most mark m

unfoldable pub count : ℕ → List Stay → ℕ
count m [] = 0
count m (x ∷ l) = pick (leb x.mark m) 1 0 + count m l

count_in : (m : ℕ) (x : Stay) (l : List Stay) → x.mark ≤ m → count m (x ∷ l) ≡ suc (count m l)
unfolding count
count_in m x l h = rw (le-leb x.mark m h) (omega arith)

pub count_out : (m : ℕ) (x : Stay) (l : List Stay) → m < x.mark → count m (x ∷ l) ≡ count m l
unfolding count
count_out m x l h = rw (lt-leb x.mark m h) (omega arith)

pub count_append : (m : ℕ) (a b : List Stay) → count m (a ++ b) ≡ count m a + count m b
unfolding count
count_append m [] b = omega arith
count_append m (x ∷ a) b = omega (arith, count_append m a b)

pub count_length : (m : ℕ) (l : List Stay) → count m l ≤ length l
unfolding count
count_length m [] = omega arith
count_length m (x ∷ l) =
    of_picked (λ (n : ℕ). n + count m l ≤ suc (length l)) (leb x.mark m) (λ p. omega (arith, count_length m l)) (λ p. omega (arith, count_length m l))

pub count_none : (m : ℕ) (l : List Stay) → ((x : Stay) → Among x l → m < x.mark) → count m l ≡ 0
unfolding count
count_none m [] h = refl
count_none m (x ∷ l) h = count_out m x l (h x (Memᴰ.head refl)) ∙ count_none m l (λ y n. h y (Memᴰ.tail n))

pub count_some : (x : Stay) (l : List Stay) → Among x l → 0 < count x.mark l
unfolding count
count_some x [] m = elim m [ ]
count_some x (y ∷ l) (Memᴰ.head e) = rw (le-leb y.mark x.mark (omega (arith, ap (λ (s : Stay). s.mark) e))) (omega arith)
count_some x (y ∷ l) (Memᴰ.tail m) = omega (arith, count_some x l m)

-- ---- the stay x between a and b replaced by a list

module _ (a : List Stay) (x : Stay) (b new : List Stay) where
  -- whoever was there is there still, or is x
  pub stays_or_is : (e : Stay) → Among e (a ++ (x ∷ b)) → Among e (a ++ (new ++ b)) ⊎ (e ≡ x)
  stays_or_is e m =
      ⊎_elim (λ m. inl (Memᴰ.append_left (new ++ b) m))
      (λ m. ⊎_elim inr (λ m. inl (Memᴰ.append_right a (Memᴰ.append_right new m))) (Memᴰ.cases_cons m)) (Memᴰ.append_cases a m)

  -- whoever is there now was there, or is new
  pub was_or_new : (e : Stay) → Among e (a ++ (new ++ b)) → Among e (a ++ (x ∷ b)) ⊎ Among e new
  was_or_new e m =
      ⊎_elim (λ m. inl (Memᴰ.append_left (x ∷ b) m))
      (λ m. ⊎_elim inr (λ m. inl (Memᴰ.append_right a (Memᴰ.tail m))) (Memᴰ.append_cases new m)) (Memᴰ.append_cases a m)

  pub one_less : (m : ℕ) → x.mark ≤ m → count m new ≡ 0 → suc (count m (a ++ (new ++ b))) ≡ count m (a ++ (x ∷ b))
  one_less m h z =
      omega (arith, count_append m a (new ++ b), count_append m new b, count_append m a (x ∷ b), count_in m x b h)

  pub no_longer : length new ≤ 1 → length (a ++ (new ++ b)) ≤ length (a ++ (x ∷ b))
  no_longer h = omega (arith, length-append a (new ++ b), length-append new b, length-append a (x ∷ b))
