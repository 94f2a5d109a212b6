-- Rows of numbers of one size: what parts, joins and xors of them are; and the list as what stands at its places.
use Rattle.std.proofs.Common.{◌≡◌, ℕ, zero, suc, ◌+◌, ◌-◌, ◌^◌, ◌<◌, ◌≤◌, Bool, true, ◌&&◌, ltb, List, [], ◌∷◌, ◌++◌, length, get_or, take, drop, set, replicate, sym, refl, ap, ◌∙◌, ap₂, arith, lit<, length-append, length-drop, length-set, length-take, get_or-drop, drop-cons, ltb-true}
use lib.ListN.{length-replicate}
use lib.Seq.{sets}
use Rattle.words.specs.Xor.{◌⊕◌, pointwise, xors}
use Rattle.words.specs.Bytes.{part, Row, IsBlock, zeros}
use Rattle.words.proofs.XorLaws.{⊕-lt, ⊕-twice, ⊕-comm, ⊕-zero-r}
use Rattle.words.proofs.Tests.{and_left, and_right}

-- every element is below m, wherever one looks (past the end stands 0)
abbrev pub Below : ℕ → List ℕ → Type 0
Below m s = (i : ℕ) → get_or s i 0 < m

-- ---- parts and joins

pub below_take : (m n : ℕ) (s : List ℕ) → 0 < m → Below m s → Below m (take n s)
below_take m zero s z h i = z
below_take m (suc n) [] z h i = z
below_take m (suc n) (b ∷ s) z h zero = h 0
below_take m (suc n) (b ∷ s) z h (suc i) = below_take m n s z (λ j. h (suc j)) i

pub below_drop : (m n : ℕ) (s : List ℕ) → Below m s → Below m (drop n s)
below_drop m n s h i = rw (get_or-drop n s i 0) (h (n + i))

pub below_append : (m : ℕ) (s t : List ℕ) → Below m s → Below m t → Below m (s ++ t)
below_append m [] t p q i = q i
below_append m (b ∷ s) t p q zero = p 0
below_append m (b ∷ s) t p q (suc i) = below_append m s t (λ j. p (suc j)) q i

module _ (m n : ℕ) {s : List ℕ} (r : Row n m s) where
  pub row_take : (k : ℕ) → 0 < m → k ≤ n → Row k m (take k s)
  row_take k z h = record { long = simp length-take (omega (arith, r.long)); below = below_take m k s z r.below }

  pub row_drop : (k : ℕ) → Row (n - k) m (drop k s)
  row_drop k = record { long = simp length-drop (ap (λ (l : ℕ). l - k) r.long); below = below_drop m k s r.below }

pub row_append : (m j k : ℕ) {s t : List ℕ} → Row j m s → Row k m t → Row (j + k) m (s ++ t)
row_append m j k {s} {t} p q =
    record { long = length-append s t ∙ ap₂ ◌+◌ p.long q.long; below = below_append m s t p.below q.below }

pub below_set : (m : ℕ) (s : List ℕ) (i b : ℕ) → b < m → Below m s → Below m (set s i b)
below_set m [] i b k f j = f j
below_set m (a ∷ s) zero b k f zero = k
below_set m (a ∷ s) zero b k f (suc j) = f (suc j)
below_set m (a ∷ s) (suc i) b k f zero = f 0
below_set m (a ∷ s) (suc i) b k f (suc j) = below_set m s i b k (λ x. f (suc x)) j

pub row_set : (n m : ℕ) {s : List ℕ} (i b : ℕ) → b < m → Row n m s → Row n m (set s i b)
row_set n m {s} i b k r = record { long = length-set s i b ∙ r.long; below = below_set m s i b k r.below }

-- a run of zeros
pub zeros_row : (n m : ℕ) → 0 < m → Row n m (replicate n 0)
zeros_row n m z = record { long = length-replicate {A = ℕ} n 0; below = small n }
  where
    small : (n : ℕ) → Below m (replicate n 0)
    small zero i = z
    small (suc n) zero = z
    small (suc n) (suc i) = small n i

pub zeros_block : IsBlock zeros
zeros_block = zeros_row 16 256 (lit< tt)

-- ---- element by element

module _ (f : ℕ → ℕ → ℕ) where
  -- as long as the first, where the second is as long or longer
  pub pointwise_within : (s t : List ℕ) → length s ≤ length t → length (pointwise f s t) ≡ length s
  pointwise_within [] t h = refl
  pointwise_within (a ∷ s) [] h = absurd (omega arith)
  pointwise_within (a ∷ s) (b ∷ t) h = ap suc (pointwise_within s t (omega arith))

  pub pointwise_length : (s t : List ℕ) → length s ≡ length t → length (pointwise f s t) ≡ length s
  pointwise_length s t e = pointwise_within s t (omega arith)

  pointwise_below : (m : ℕ) → ((x y : ℕ) → x < m → y < m → f x y < m) → (s t : List ℕ) → Below m s → Below m t → Below m (pointwise f s t)
  pointwise_below m h [] t p q i = p i
  pointwise_below m h (a ∷ s) [] p q i = q i
  pointwise_below m h (a ∷ s) (b ∷ t) p q zero = h a b (p 0) (q 0)
  pointwise_below m h (a ∷ s) (b ∷ t) p q (suc i) = pointwise_below m h s t (λ j. p (suc j)) (λ j. q (suc j)) i

  pub pointwise_row : (m n : ℕ) → ((x y : ℕ) → x < m → y < m → f x y < m) → {s t : List ℕ} → Row n m s → Row n m t → Row n m (pointwise f s t)
  pointwise_row m n h {s} {t} p q =
      record { long = pointwise_length s t (p.long ∙ sym q.long) ∙ p.long; below = pointwise_below m h s t p.below q.below }

  pub pointwise_comm : ((x y : ℕ) → f x y ≡ f y x) → (s t : List ℕ) → pointwise f s t ≡ pointwise f t s
  pointwise_comm h [] [] = refl
  pointwise_comm h [] (b ∷ t) = refl
  pointwise_comm h (a ∷ s) [] = refl
  pointwise_comm h (a ∷ s) (b ∷ t) = ap₂ (λ (x : ℕ) (l : List ℕ). x ∷ l) (h a b) (pointwise_comm h s t)

  pointwise_nil : (s : List ℕ) → pointwise f s [] ≡ []
  pointwise_nil [] = refl
  pointwise_nil (a ∷ s) = refl

  pointwise_append : (s t u v : List ℕ) → length s ≡ length t → pointwise f (s ++ u) (t ++ v) ≡ pointwise f s t ++ pointwise f u v
  pointwise_append [] [] u v e = refl
  pointwise_append [] (b ∷ t) u v e = absurd (omega arith)
  pointwise_append (a ∷ s) [] u v e = absurd (omega arith)
  pointwise_append (a ∷ s) (b ∷ t) u v e = ap (λ (l : List ℕ). f a b ∷ l) (pointwise_append s t u v (omega arith))

  pointwise_take : (n : ℕ) (s t : List ℕ) → take n (pointwise f s t) ≡ pointwise f (take n s) (take n t)
  pointwise_take zero s t = refl
  pointwise_take (suc n) [] t = refl
  pointwise_take (suc n) (a ∷ s) [] = refl
  pointwise_take (suc n) (a ∷ s) (b ∷ t) = ap (λ (l : List ℕ). f a b ∷ l) (pointwise_take n s t)

  pointwise_drop : (n : ℕ) (s t : List ℕ) → drop n (pointwise f s t) ≡ pointwise f (drop n s) (drop n t)
  pointwise_drop zero s t = refl
  pointwise_drop (suc n) [] t = refl
  pointwise_drop (suc n) (a ∷ s) [] = sym (pointwise_nil (drop n s))
  pointwise_drop (suc n) (a ∷ s) (b ∷ t) = pointwise_drop n s t

-- g undoes f where it does so at each place
pub pointwise_undone : (f g : ℕ → ℕ → ℕ) (s t : List ℕ) → length s ≡ length t
    → ((i : ℕ) → g (f (get_or s i 0) (get_or t i 0)) (get_or t i 0) ≡ get_or s i 0) → pointwise g (pointwise f s t) t ≡ s
pointwise_undone f g [] t e h = refl
pointwise_undone f g (a ∷ s) [] e h = absurd (omega arith)
pointwise_undone f g (a ∷ s) (b ∷ t) e h =
    ap₂ (λ (x : ℕ) (l : List ℕ). x ∷ l) (h 0) (pointwise_undone f g s t (omega arith) (λ i. h (suc i)))

-- ---- xor

pub xors_length : (s t : List ℕ) → length s ≡ length t → length (xors s t) ≡ length s
unfolding xors
xors_length = pointwise_length ◌⊕◌

pub xors_within : (s t : List ℕ) → length s ≤ length t → length (xors s t) ≡ length s
unfolding xors
xors_within = pointwise_within ◌⊕◌

pub xors_row : (k n : ℕ) {s t : List ℕ} → Row n (2 ^ k) s → Row n (2 ^ k) t → Row n (2 ^ k) (xors s t)
unfolding xors
xors_row k n = pointwise_row ◌⊕◌ (2 ^ k) n (⊕-lt k)

-- a second xor undoes the first
pub xors_twice : (s t : List ℕ) → length s ≡ length t → xors (xors s t) t ≡ s
unfolding xors
xors_twice s t e = pointwise_undone ◌⊕◌ ◌⊕◌ s t e (λ i. sym (⊕-twice (get_or s i 0) (get_or t i 0)))

pub xors_comm : (s t : List ℕ) → xors s t ≡ xors t s
unfolding xors
xors_comm = pointwise_comm ◌⊕◌ ⊕-comm

pub xors_append : (s t u v : List ℕ) → length s ≡ length t → xors (s ++ u) (t ++ v) ≡ xors s t ++ xors u v
unfolding xors
xors_append = pointwise_append ◌⊕◌

pub xors_part : (at k : ℕ) (s t : List ℕ) → part at k (xors s t) ≡ xors (part at k s) (part at k t)
unfolding xors
xors_part at k s t = ap (take k) (pointwise_drop ◌⊕◌ at s t) ∙ pointwise_take ◌⊕◌ k (drop at s) (drop at t)

pub xors_zeros : (n : ℕ) (s : List ℕ) → length s ≡ n → xors s (replicate n 0) ≡ s
unfolding xors
xors_zeros zero [] e = refl
xors_zeros zero (b ∷ s) e = absurd (omega arith)
xors_zeros (suc n) [] e = refl
xors_zeros (suc n) (b ∷ s) e = ap₂ (λ (x : ℕ) (l : List ℕ). x ∷ l) (⊕-zero-r b) (xors_zeros n s (omega arith))

-- ---- a list is what stands at its places, so that one of known length can be written out

abbrev pub tab : ℕ → ℕ → List ℕ → List ℕ
tab zero i s = []
tab (suc n) i s = get_or s i 0 ∷ tab n (suc i) s

tab_tail : (n i x : ℕ) (s : List ℕ) → tab n (suc i) (x ∷ s) ≡ tab n i s
tab_tail zero i x s = refl
tab_tail (suc n) i x s = ap (λ (t : List ℕ). get_or s i 0 ∷ t) (tab_tail n (suc i) x s)

tab_length : (s : List ℕ) → tab (length s) 0 s ≡ s
tab_length [] = refl
tab_length (x ∷ s) = ap (λ (t : List ℕ). x ∷ t) (tab_tail (length s) 0 x s ∙ tab_length s)

pub tab_all : (n : ℕ) (s : List ℕ) → length s ≡ n → tab n 0 s ≡ s
tab_all n s e = ap (λ (m : ℕ). tab m 0 s) (sym e) ∙ tab_length s

-- ---- a bound by one test that antt computes

abbrev pub all_below : ℕ → List ℕ → Bool
all_below m [] = true
all_below m (b ∷ s) = ltb b m && all_below m s

pub below_test : (m : ℕ) (s : List ℕ) → 0 < m → all_below m s ≡ true → Below m s
below_test m [] z e i = z
below_test m (b ∷ s) z e zero = ltb-true b m (and_left (ltb b m) (all_below m s) e)
below_test m (b ∷ s) z e (suc i) = below_test m s z (and_right (ltb b m) (all_below m s) e) i

-- ---- a window of a list, and a run of stores

pub window : (k at : ℕ) (s : List ℕ) → at + k ≤ length s → take k (drop at s) ≡ tab k at s
window zero at s h = refl
window (suc k) at s h =
    ap (take (suc k)) (drop-cons s at 0 (omega arith)) ∙ ap (λ (t : List ℕ). get_or s at 0 ∷ t) (window k (suc at) s (omega arith))

pub sets_append : (l : List ℕ) (i : ℕ) (a b : List ℕ) → sets l i (a ++ b) ≡ sets (sets l i a) (i + length a) b
sets_append l i [] b = ap (λ (k : ℕ). sets l k b) (omega arith)
sets_append l i (x ∷ a) b = sets_append (set l i x) (suc i) a b ∙ ap (λ (k : ℕ). sets (sets (set l i x) (suc i) a) k b) (omega arith)
