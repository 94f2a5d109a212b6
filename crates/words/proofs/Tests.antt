-- Tests that are computed: both of two that hold together, two of which neither holds, one at each number below a bound, and whether two lists are the
-- same.
use Rattle.std.proofs.Common.{◌≡◌, ℕ, zero, suc, ◌<◌, Bool, true, false, not, ◌&&◌, ◌||◌, T, eqb, List, [], ◌∷◌, sym, refl, subst, ap₂, ⊎_elim, true≢false, le_of_suc-le-suc, eq-or-lt_of_le, arith, eq-eqb, eqb-true}
use Rattle.words.specs.Bytes.{same}

pub and_left : (a b : Bool) → (a && b) ≡ true → a ≡ true
and_left true b e = refl
and_left false b e = e

pub and_right : (a b : Bool) → (a && b) ≡ true → b ≡ true
and_right true b e = e
and_right false b e = cc

-- of two of which neither holds
pub neither : (a b : Bool) → (a || b) ≡ false → (a ≡ false) × (b ≡ false)
neither true b e = (e, cc)
neither false b e = (refl, e)

-- the second of two of which one holds, where the first does not
pub or_right : (b : Bool) {c : Bool} → b ≡ true → (not b || c) ≡ true → c ≡ true
or_right true e h = h
or_right false e h = absurd (true≢false (sym e))

-- one that cannot hold does not
pub refuted : (t : Bool) → ¬ (t ≡ true) → t ≡ false
refuted true h = absurd (h refl)
refuted false h = refl

-- the same of tests that antt computes
pub both_left : (a b : Bool) → T (a && b) → T a
both_left true b t = tt
both_left false b t = t

pub both_right : (a b : Bool) → T (a && b) → T b
both_right true b t = t
both_right false b t = absurd t

pub both_ways : (a b : Bool) → (a ≡ true → b ≡ true) → (b ≡ true → a ≡ true) → a ≡ b
both_ways true b f g = sym (f refl)
both_ways false true f g = g refl
both_ways false false f g = refl

-- the test passes at each number below n
abbrev pub passes : (ℕ → Bool) → ℕ → Bool
passes f zero = true
passes f (suc n) = f n && passes f n

pub below : (f : ℕ → Bool) (n : ℕ) → T (passes f n) → (k : ℕ) → k < n → T (f k)
below f zero t k h = absurd (omega arith)
below f (suc n) t k h =
    ⊎_elim (λ e. subst (λ (m : ℕ). T (f m)) (sym e) (both_left (f n) (passes f n) t)) (λ l. below f n (both_right (f n) (passes f n) t) k l)
    (eq-or-lt_of_le (le_of_suc-le-suc h))

pub same_refl : (s : List ℕ) → same s s ≡ true
unfolding same
same_refl [] = refl
same_refl (x ∷ s) = rw (eq-eqb x x refl, same_refl s)

pub same_eq : (s t : List ℕ) → same s t ≡ true → s ≡ t
unfolding same
same_eq [] [] e = refl
same_eq [] (y ∷ t) e = cc
same_eq (x ∷ s) [] e = cc
same_eq (x ∷ s) (y ∷ t) e =
    ap₂ (λ (v : ℕ) (l : List ℕ). v ∷ l) (eqb-true x y (and_left (eqb x y) (same s t) e)) (same_eq s t (and_right (eqb x y) (same s t) e))
