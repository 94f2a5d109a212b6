-- What the functions that fill a table store: two words are an entry, runs of stores join, and the multiples of V by the leftmost four bits are
-- sums of V, V x, V x² and V x³.
use mathlib.Core.Path.{◌≡◌, refl, sym, ap, ap₂, ◌∙◌}
use mathlib.Core.List.{List, [], ◌∷◌, ◌++◌}
use Prim.Native.Nat.{ℕ, zero, suc, ◌+◌, ◌*◌, ◌^◌, ◌<◌}
use native.Mathlib.Omega.{arith}
use native.Mathlib.Numerals.{add-one, add-two, add-three}
use native.Mathlib.Nat.{add-zero, zero-add}
use lib.Dec.{lit<}
use lib.ListN.{length, get_or, set}
use lib.Seq.{sets}
use Rattle.words.specs.Xor.{◌⊕◌}
use Rattle.words.proofs.XorLaws.{⊕-shl, ⊕-shifted}
use Rattle.words.proofs.Rows.{sets_append}
use Rattle.words.proofs.Blocks.{four}
use Rattle.ghash.specs.Field.{times_x, product}
use Rattle.ghash.specs.Hash.{big}
use Rattle.ghash.specs.Machine.{bytes_of_element, entry}
use Rattle.ghash.specs.Inner.{entries, fours, row, multiples}
use Rattle.ghash.proofs.Product.{product_xor, product_zero, product_shift, one_product}

-- ---- a table's entries

twice : (i : ℕ) → suc i * 2 ≡ suc (suc (i * 2))
twice i = omega arith

twice_1 : (i : ℕ) → suc i * 2 + 1 ≡ suc (suc (i * 2 + 1))
twice_1 i = omega arith

pub entries_put : (t : List ℕ) (i a b : ℕ)
    → entries (set (set t (i * 2) a) (i * 2 + 1) b) ≡ set (entries t) i (big (bytes_of_element (record { lo = a; hi = b })))
unfolding entries
entries_put [] i a b = refl
entries_put (x ∷ []) zero a b = refl
entries_put (x ∷ []) (suc i) a b = rw (twice_1 i, twice i)
entries_put (x ∷ y ∷ t) zero a b = refl
entries_put (x ∷ y ∷ t) (suc i) a b = rw (twice_1 i, twice i) (ap (λ (l : List ℕ). big (bytes_of_element (record { lo = x; hi = y })) ∷ l) (entries_put t i a b))

pub entries_long : (n : ℕ) (t : List ℕ) → length t ≡ n * 2 → length (entries t) ≡ n
unfolding entries
entries_long zero [] e = refl
entries_long (suc n) [] e = absurd (omega arith)
entries_long n (x ∷ []) e = absurd (omega arith)
entries_long zero (x ∷ y ∷ t) e = absurd (omega arith)
entries_long (suc n) (x ∷ y ∷ t) e = ap suc (entries_long n t (omega arith))

pub entries_at : (t : List ℕ) (i : ℕ) → i < length (entries t) → get_or (entries t) i 0 ≡ entry t (i * 2)
unfolding entries
entries_at [] i h = absurd (omega arith)
entries_at (x ∷ []) i h = absurd (omega arith)
entries_at (x ∷ y ∷ t) zero h = refl
entries_at (x ∷ y ∷ t) (suc i) h = rw (twice_1 i, twice i) (entries_at t i (omega arith))

-- four stores one behind the other, of a, b, c and d
pub four_stores : (l l1 l2 l3 l4 : List ℕ) (i a : ℕ) {b c d b' c' d' : ℕ} → l1 ≡ set l i a → l2 ≡ set l1 (i + 1) b' → l3 ≡ set l2 (i + 2) c'
    → l4 ≡ set l3 (i + 3) d' → b' ≡ b → c' ≡ c → d' ≡ d → l4 ≡ sets l i (a ∷ b ∷ c ∷ d ∷ [])
four_stores l l1 l2 l3 l4 i a p q r s e f g = simp (s, r, q, p, e, f, g, add-one, add-two, add-three)

row_at : (n k i : ℕ) (f : ℕ → ℕ) → i < n → get_or (row n k f) i 0 ≡ f (k + i)
row_at zero k i f h = absurd (omega arith)
row_at (suc n) k zero f h = ap f (sym (add-zero k))
row_at (suc n) k (suc i) f h = row_at n (suc k) i f (omega arith) ∙ ap f (let e : suc k + i ≡ k + suc i = omega arith in e)

-- four runs of four one behind the other
sixteen_stores : (l l1 l2 l3 l4 : List ℕ) (i : ℕ) (a b c d : List ℕ) → length a ≡ 4 → length b ≡ 4 → length c ≡ 4 → l1 ≡ sets l i a
    → l2 ≡ sets l1 (i + 4) b → l3 ≡ sets l2 (i + 8) c → l4 ≡ sets l3 (i + 12) d → l4 ≡ sets l i (a ++ (b ++ (c ++ d)))
sixteen_stores l l1 l2 l3 l4 i a b c d la lb lc p q r s =
    let n : i + 4 + 4 ≡ i + 8 = omega arith in
    let m : i + 8 + 4 ≡ i + 12 = omega arith in
    rw (sets_append l i a (b ++ (c ++ d)), la, ← p, sets_append l1 (i + 4) b (c ++ d), lb, n, ← q, sets_append l2 (i + 8) c d, lc, m, ← r) s

-- ---- the leftmost four bits

module _ (v : ℕ) where
  left : ℕ → ℕ
  left k = product (k * 2 ^ 124) v

  left_sum : (q k b : ℕ) → b < 2 ^ k → left (q * 2 ^ k) ⊕ left b ≡ left (q * 2 ^ k + b)
  unfolding left
  left_sum q k b h =
      sym (product_xor (q * 2 ^ k * 2 ^ 124) (b * 2 ^ 124) v)
      ∙ ap (λ (x : ℕ). product x v) (sym (⊕-shl (q * 2 ^ k) b 124) ∙ ap (λ (x : ℕ). x * 2 ^ 124) (⊕-shifted q k b h))

  abbrev lefts : ℕ → List ℕ
  lefts q = left (q * 4) ∷ left (q * 4 + 1) ∷ left (q * 4 + 2) ∷ left (q * 4 + 3) ∷ []

  left_four : (q : ℕ) {w a b ab : ℕ} → w ≡ left (q * 4) → a ≡ left 1 → b ≡ left 2 → ab ≡ left 3
      → fours w a b ab ≡ lefts q
  left_four q e f g h =
      four e (ap₂ ◌⊕◌ e f ∙ left_sum q 2 1 (lit< tt)) (ap₂ ◌⊕◌ e g ∙ left_sum q 2 2 (lit< tt)) (ap₂ ◌⊕◌ e h ∙ left_sum q 2 3 (lit< tt))

left_8 : (v : ℕ) → left v 8 ≡ v
unfolding left
left_8 v = one_product v

left_4 : (v : ℕ) → left v 4 ≡ times_x v
unfolding left
left_4 v = product_shift (2 ^ 126) v (lit< tt) ∙ one_product (times_x v)

left_2 : (v : ℕ) → left v 2 ≡ times_x (times_x v)
unfolding left
left_2 v = product_shift (2 ^ 125) v (lit< tt) ∙ left_4 (times_x v)

left_1 : (v : ℕ) → left v 1 ≡ times_x (times_x (times_x v))
unfolding left
left_1 v = product_shift (2 ^ 124) v (lit< tt) ∙ left_2 (times_x v)

multiples_left : (v : ℕ) → multiples v ≡ lefts v 0 ++ (lefts v 1 ++ (lefts v 2 ++ lefts v 3))
unfolding multiples left
multiples_left v = refl

pub multiples_at : (v k : ℕ) → k < 16 → get_or (multiples v) k 0 ≡ product (k * 2 ^ 124) v
unfolding multiples
multiples_at v k h = row_at 16 0 k (λ k. product (k * 2 ^ 124) v) h ∙ ap (λ (j : ℕ). product (j * 2 ^ 124) v) (zero-add k)

-- what `place` stores
module _ (l l1 l2 l3 l4 : List ℕ) (i v : ℕ) {v0 v8 v4 v2 v1 v3 v12 : ℕ} (e0 : v0 ≡ 0) (e8 : v8 ≡ v) (e4 : v4 ≡ times_x v)
    (e2 : v2 ≡ times_x (times_x v)) (e1 : v1 ≡ times_x (times_x (times_x v))) (e3 : v3 ≡ v2 ⊕ v1) (e12 : v12 ≡ v8 ⊕ v4) where
  is_0 : v0 ≡ left v 0
  unfolding left
  is_0 = e0 ∙ sym (product_zero v)

  is_8 : v8 ≡ left v 8
  is_8 = e8 ∙ sym (left_8 v)

  is_4 : v4 ≡ left v 4
  is_4 = e4 ∙ sym (left_4 v)

  is_2 : v2 ≡ left v 2
  is_2 = e2 ∙ sym (left_2 v)

  is_1 : v1 ≡ left v 1
  is_1 = e1 ∙ sym (left_1 v)

  is_3 : v3 ≡ left v 3
  is_3 = e3 ∙ ap₂ ◌⊕◌ is_2 is_1 ∙ left_sum v 1 1 1 (lit< tt)

  is_12 : v12 ≡ left v 12
  is_12 = e12 ∙ ap₂ ◌⊕◌ is_8 is_4 ∙ left_sum v 1 3 4 (lit< tt)

  abbrev Four : (j : ℕ) (w : ℕ) (l l' : List ℕ) → Type 0
  Four j w l l' = l' ≡ sets l j (fours w v1 v2 v3)

  pub placed : Four i v0 l l1 → Four (i + 4) v4 l1 l2 → Four (i + 8) v8 l2 l3 → Four (i + 12) v12 l3 l4 → l4 ≡ sets l i (multiples v)
  placed p q r s =
      sixteen_stores l l1 l2 l3 l4 i (lefts v 0) (lefts v 1) (lefts v 2) (lefts v 3) refl refl refl (p ∙ ap (sets l i) (left_four v 0 is_0 is_1 is_2 is_3))
      (q ∙ ap (sets l1 (i + 4)) (left_four v 1 is_4 is_1 is_2 is_3)) (r ∙ ap (sets l2 (i + 8)) (left_four v 2 is_8 is_1 is_2 is_3))
      (s ∙ ap (sets l3 (i + 12)) (left_four v 3 is_12 is_1 is_2 is_3))
      ∙ ap (sets l i) (sym (multiples_left v))

pub multiples_long : (v : ℕ) → length (multiples v) ≡ 16
unfolding multiples
multiples_long v = refl
