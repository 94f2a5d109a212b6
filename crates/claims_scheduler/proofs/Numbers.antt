-- No number stands at two places: a joiner's number is new, and a service leaves of one stay nothing, or one stay under its number.
use mathlib.Core.Path.{◌≡◌, refl, sym, ap, ◌∙◌}
use mathlib.Core.List.Memᴰ
use mathlib.Core.List.{List, [], ◌∷◌, ◌++◌}
use mathlib.Core.Bool.{true, false, true≢false, or-true}
use mathlib.Core.Logic.{⊎_elim}
use Prim.Native.Nat.{ℕ, zero, suc, ◌≤◌, ◌<◌}
use native.Mathlib.Omega.{arith}
use lib.ListN.{length}
use Rattle.words.specs.Bytes.{same}
use Rattle.words.proofs.Tests.{refuted, same_refl, same_eq}
use Rattle.scheduler.specs.Scheduler.{Stay, iv_of, present, at}
use Rattle.claims_scheduler.proofs.Lists.{Among, at_among, was_or_last, was_or_new}

pub among_present : (x : Stay) (l : List Stay) → Among x l → present (iv_of x) l ≡ true
unfolding present
among_present x [] m = elim m [ ]
among_present x (y ∷ l) (Memᴰ.head e) = rw (← e, same_refl (iv_of x))
among_present x (y ∷ l) (Memᴰ.tail m) = rw (among_present x l m) (or-true (same (iv_of y) (iv_of x)))

pub absent : (iv : List ℕ) (l : List Stay) → present iv l ≡ false → (x : Stay) → Among x l → ¬ (iv_of x ≡ iv)
absent iv l e x m q = true≢false (sym (rw q at (among_present x l m)) ∙ e)

pub lacking : (iv : List ℕ) (l : List Stay) → ((x : Stay) → Among x l → ¬ (iv_of x ≡ iv)) → present iv l ≡ false
unfolding present
lacking iv [] h = refl
lacking iv (x ∷ l) h =
    rw (refuted (same (iv_of x) iv) (λ e. h x (Memᴰ.head refl) (same_eq _ _ e)), lacking iv l (λ y m. h y (Memᴰ.tail m)))

-- no number stands twice
unfoldable pub Apart : List Stay → Type 0
Apart [] = Unit
Apart (x ∷ l) = ((y : Stay) → Among y l → ¬ (iv_of y ≡ iv_of x)) × Apart l

pub apart_places : (l : List Stay) → Apart l → (i j : ℕ) → i < j → j < length l → ¬ (iv_of (at l i) ≡ iv_of (at l j))
unfolding Apart
apart_places [] a i j h k = absurd (omega arith)
apart_places (x ∷ l) a i zero h k = absurd (omega arith)
apart_places (x ∷ l) a zero (suc j) h k = λ e. a.0 (at l j) (at_among l j (omega arith)) (sym e)
apart_places (x ∷ l) a (suc i) (suc j) h k = apart_places l a.1 i j (omega arith) (omega arith)

-- a number stands for one stay
pub one_of : (l : List Stay) → Apart l → (x y : Stay) → Among x l → Among y l → iv_of x ≡ iv_of y → x ≡ y
unfolding Apart
one_of [] a x y m _ e = elim m [ ]
one_of (z ∷ l) a x y (Memᴰ.head p) (Memᴰ.head q) e = p ∙ sym q
one_of (z ∷ l) a x y (Memᴰ.head p) (Memᴰ.tail n) e = absurd (a.0 y n (sym e ∙ ap iv_of p))
one_of (z ∷ l) a x y (Memᴰ.tail m) (Memᴰ.head q) e = absurd (a.0 x m (e ∙ ap iv_of q))
one_of (z ∷ l) a x y (Memᴰ.tail m) (Memᴰ.tail n) e = one_of l a.1 x y m n e

-- a number that is not there, put behind
pub apart_behind : (l : List Stay) (x : Stay) → Apart l → ((y : Stay) → Among y l → ¬ (iv_of y ≡ iv_of x)) → Apart (l ++ (x ∷ []))
unfolding Apart
apart_behind [] x a new = ((λ y m. absurd (Memᴰ.not-nil m)), tt)
apart_behind (z ∷ l) x a new = (
  (λ y m. ⊎_elim (a.0 y) (λ q e. new z (Memᴰ.head refl) (sym e ∙ ap iv_of q)) (was_or_last l x y m)),
  apart_behind l x a.1 (λ y m. new y (Memᴰ.tail m)),
)

-- in the place of x nothing, or one stay under its number
pub apart_put : (a : List Stay) (x : Stay) (b new : List Stay) → length new ≤ 1 → ((y : Stay) → Among y new → iv_of y ≡ iv_of x)
    → Apart (a ++ (x ∷ b)) → Apart (a ++ (new ++ b))
unfolding Apart
apart_put [] x b [] h own p = p.1
apart_put [] x b (y ∷ []) h own p = ((λ z m e. p.0 z m (e ∙ own y (Memᴰ.head refl))), p.1)
apart_put [] x b (y ∷ z ∷ new) h own p = absurd (omega arith)
apart_put (z ∷ a) x b new h own p = (
  (λ y m. ⊎_elim (p.0 y)
      (λ n e. p.0 x (Memᴰ.append_right a (Memᴰ.head refl)) (sym (own y n) ∙ e))
      (was_or_new a x b new y m)),
  apart_put a x b new h own p.1,
)
