-- Parts of a list: parts of parts, a list that is parts one behind the other, and a list put together from its parts.
use Rattle.std.proofs.Common.{◌≡◌, ℕ, zero, suc, ◌+◌, ◌-◌, ◌<◌, ◌≤◌, List, [], ◌∷◌, ◌++◌, length, get_or, take, drop, sym, refl, ap, ◌∙◌, ap₂, arith, length-drop, length-take, get_or-drop, drop-cons, get_or-take, take-take, drop-drop, take_at, take-add, drop_at}
use Rattle.words.specs.Bytes.{part, joined, Row}
use Rattle.words.proofs.Rows.{row_take, row_drop}

-- a part, from its byte i on
pub part_next : (s : List ℕ) (at k i : ℕ) → i < k → at + k ≤ length s
    → part (at + i) (k - i) s ≡ get_or s (at + i) 0 ∷ part (at + (i + 1)) (k - (i + 1)) s
part_next s at k i h n =
    let e : k - i ≡ suc (k - (i + 1)) = omega arith in
    let f : at + (i + 1) ≡ suc (at + i) = omega arith in
    let g : at + i < length s = omega arith in
    rw (e, f, drop-cons s (at + i) 0 g)

drop_take : (h k : ℕ) (l : List ℕ) → h ≤ k → drop h (take k l) ≡ take (k - h) (drop h l)
drop_take zero k l q = ap (λ (n : ℕ). take n l) (let e : k ≡ k - 0 = omega arith in e)
drop_take (suc h) zero l q = absurd (omega arith)
drop_take (suc h) (suc k) [] q = let e : suc k - suc h ≡ k - h = omega arith in rw e (nothing (k - h))
  where
    nothing : (n : ℕ) → ◌≡◌ {A = List ℕ} [] (take n [])
    nothing zero = refl
    nothing (suc n) = refl
drop_take (suc h) (suc k) (x ∷ l) q = let e : suc k - suc h ≡ k - h = omega arith in rw e (drop_take h k l (omega arith))

-- a part, as the end of a front
pub part_front : (s : List ℕ) (at k : ℕ) → drop at (take (at + k) s) ≡ part at k s
part_front s at k = drop_take at (at + k) s (omega arith) ∙ ap (λ (n : ℕ). take n (drop at s)) (let e : at + k - at ≡ k = omega arith in e)

pub part_long : (s : List ℕ) (at k : ℕ) → at + k ≤ length s → length (part at k s) ≡ k
part_long s at k h = simp (length-take, length-drop) (omega arith)

-- what stands at a place of it
pub part_at : (s : List ℕ) (at k i : ℕ) → i < k → get_or s (at + i) 0 ≡ get_or (part at k s) i 0
part_at s at k i h = sym (get_or-take k (drop at s) i 0 h ∙ get_or-drop at s i 0)

-- a longer part
pub part_more : (s : List ℕ) (at k m : ℕ) → part at (k + m) s ≡ part at k s ++ part (at + k) m s
part_more s at k m = take-add k m (drop at s) ∙ ap (λ (l : List ℕ). part at k s ++ take m l) (drop-drop k at s)

-- the end of a part
pub part_behind : (s : List ℕ) (at k h : ℕ) → h ≤ k → drop h (part at k s) ≡ part (at + h) (k - h) s
part_behind s at k h q = drop_take h k (drop at s) q ∙ ap (take (k - h)) (drop-drop h at s)

-- a part of a part
pub part_part : (s : List ℕ) (at k h j : ℕ) → h + j ≤ k → part h j (part at k s) ≡ part (at + h) j s
part_part s at k h j q = ap (take j) (part_behind s at k h (omega arith)) ∙ take-take j (k - h) (drop (at + h) s) (omega arith)

-- a part of a row
pub part_row : (m l : ℕ) {s : List ℕ} → 0 < m → Row l m s → (at k : ℕ) → at + k ≤ l → Row k m (part at k s)
part_row m l z r at k h = row_take m (l - at) (row_drop m l r at) k z (omega arith)

-- ---- apart: from place n on, s is the parts fs

pub record At (s : List ℕ) (n : ℕ) (fs : List (List ℕ)) : Type 0 where
  pub is : drop n s ≡ joined fs

module _ {s : List ℕ} {n : ℕ} {u : List ℕ} {fs : List (List ℕ)} (d : At s n (u ∷ fs)) (k : ℕ) (e : length u ≡ k) where
  pub down : At s (n + k) fs
  down = record { is = sym (drop-drop k n s) ∙ ap (drop k) d.is ∙ drop_at u (joined fs) k e }

  pub here : part n k s ≡ u
  here = ap (take k) d.is ∙ take_at u (joined fs) k e

-- ---- together: one part more

pub grow : (s : List ℕ) (n k : ℕ) {pre f : List ℕ} → pre ≡ take n s → f ≡ part n k s → pre ++ f ≡ take (n + k) s
grow s n k a b = ap₂ (λ (x y : List ℕ). x ++ y) a b ∙ sym (take-add n k s)
