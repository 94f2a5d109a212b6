-- Runs of zeros: the loop that looks for them, and that a all-zero list is one.
use Rattle.std.proofs.Common.{◌≡◌, ℕ, zero, suc, ◌+◌, ◌-◌, ◌<◌, ◌≤◌, Bool, true, ◌&&◌, eqb, List, [], ◌∷◌, length, get_or, drop, replicate, sym, refl, ap, ◌∙◌, ap₂, add-one, arith, drop_of_length-le, drop-cons, get_or-drop, eqb-true}
use mathlib.Core.Bool.{and_assoc, and-true}
use Rattle.words.proofs.Tests.{and_left, and_right}
use Rattle.fields.specs.Fields.{all_zero}

-- what has been seen, and what is left to see, make the answer
pub all_zero_more : (s : List ℕ) (i : ℕ) (all t : Bool) → i < length s → (all && all_zero (drop i s)) ≡ t
    → ((all && eqb (get_or s i 0) 0) && all_zero (drop (i + 1) s)) ≡ t
unfolding all_zero
all_zero_more s i all t h q =
    rw (add-one i) (and_assoc all (eqb (get_or s i 0) 0) (all_zero (drop (suc i) s)) ∙ rw (drop-cons s i 0 h) at q)

pub all_zero_all : (s : List ℕ) (i : ℕ) (all t : Bool) → length s ≤ i → (all && all_zero (drop i s)) ≡ t → all ≡ t
unfolding all_zero
all_zero_all s i all t h q = sym (and-true all) ∙ rw (drop_of_length-le s h) at q

-- ---- what is all-zero

pub zeros_all_zero : (n : ℕ) → all_zero (replicate n 0) ≡ true
unfolding all_zero
zeros_all_zero zero = refl
zeros_all_zero (suc n) = zeros_all_zero n

pub all_zero_zeros : (n : ℕ) (s : List ℕ) → length s ≡ n → all_zero s ≡ true → replicate n 0 ≡ s
unfolding all_zero
all_zero_zeros zero [] e z = refl
all_zero_zeros zero (b ∷ s) e z = absurd (omega arith)
all_zero_zeros (suc n) [] e z = absurd (omega arith)
all_zero_zeros (suc n) (b ∷ s) e z =
    ap₂ (λ (x : ℕ) (l : List ℕ). x ∷ l) (sym (eqb-true b 0 (and_left (eqb b 0) (all_zero s) z))) (all_zero_zeros n s (omega arith) (and_right (eqb b 0) (all_zero s) z))

-- all-zero from a place on, and zero at each place from there on
pub behind_all_zero : (n : ℕ) (s : List ℕ) → ((i : ℕ) → n ≤ i → get_or s i 0 ≡ 0) → all_zero (drop n s) ≡ true
unfolding all_zero
behind_all_zero n s h = go (drop n s) (λ i. get_or-drop n s i 0 ∙ h (n + i) (omega arith))
  where
    go : (s : List ℕ) → ((i : ℕ) → get_or s i 0 ≡ 0) → all_zero s ≡ true
    go [] h = refl
    go (b ∷ s) h = rw (h 0) (go s (λ i. h (suc i)))

pub all_zero_behind : (n : ℕ) (s : List ℕ) → all_zero (drop n s) ≡ true → (i : ℕ) → n ≤ i → get_or s i 0 ≡ 0
unfolding all_zero
all_zero_behind n s e i h =
    let f : n + (i - n) ≡ i = omega arith in
    ap (λ (j : ℕ). get_or s j 0) (sym f) ∙ sym (get_or-drop n s (i - n) 0) ∙ go (drop n s) e (i - n)
  where
    go : (s : List ℕ) → all_zero s ≡ true → (i : ℕ) → get_or s i 0 ≡ 0
    go [] e i = refl
    go (b ∷ s) e zero = eqb-true b 0 (and_left (eqb b 0) (all_zero s) e)
    go (b ∷ s) e (suc i) = go s (and_right (eqb b 0) (all_zero s) e) i
