-- For the code, which goes along a piece by its places: a part of a piece is the part before a place and the part behind it, and a loop's turn
-- takes one block off the front of what is left, which leads where the whole leads.
use mathlib.Core.Path.{◌≡◌, refl, sym, ap, ap₂, ◌∙◌}
use mathlib.Core.List.{List, [], ◌∷◌, ◌++◌}
use Prim.Native.Nat.{ℕ, zero, suc, ◌+◌, ◌-◌, ◌*◌, ◌/◌, ◌%◌, ◌≤◌, ◌<◌}
use native.Mathlib.Nat.{zero-add, suc-add}
use native.Mathlib.Decide.{ℕ_discrete}
use native.Mathlib.Omega.{arith}
use lib.ListN.{length, take, drop, take-append-drop}
use lib.Seq.{sets, length-sets, slice, length-slice, length-take-le, take-nil, take-take, take-length, take_all, drop-append-le}
use Rattle.words.specs.Bytes.{part, zeros}
use Rattle.ghash.specs.Hash.{eat, hash_from}
use Rattle.ghash.proofs.Hashing.{hash_append, hash_none, hash_one}
use Rattle.digest.specs.Sum.{Sum, fresh}
use Rattle.digest.specs.Digest.{absorb}
use Rattle.digest.proofs.Pieces.{sum, absorb_append, absorb_fills, absorb_rest, absorb_over, sets_end}

pub slice_split : (f m t : ℕ) (s : List ℕ) → f ≤ m → m ≤ t → t ≤ length s → slice f t s ≡ slice f m s ++ slice m t s
slice_split f m t s h k n =
    let l = length-take-le m s (omega arith) in
    ap (drop f) (sym (take-append-drop m (take t s)) ∙ ap (λ (r : List ℕ). r ++ slice m t s) (take-take m t s k))
    ∙ drop-append-le f (take m s) (slice m t s) (omega arith)

pub slice_take : (f k : ℕ) (s : List ℕ) → slice f (f + k) s ≡ take k (drop f s)
slice_take zero k s = rw (zero-add k)
slice_take (suc f) k [] = rw (suc-add f k, take-nil k)
slice_take (suc f) k (x ∷ s) = rw (suc-add f k) (slice_take f k s)

pub slice_all : (s : List ℕ) → slice 0 (length s) s ≡ s
slice_all s = take-length s

-- ---- block by block

-- a block is taken off the front of what is left, which then leads where it led
pub hashed_more : (h z x t : List ℕ) {l v w : List ℕ} → l ≡ x ++ t → length x ≡ 16 → v ≡ eat h z (part 0 16 x) → hash_from h z l ≡ w → hash_from h v t ≡ w
hashed_more h z x t p n e q =
    ap (λ (u : List ℕ). hash_from h u t) (e ∙ ap (eat h z) (take_all 16 x (omega arith)) ∙ sym (hash_one h z x n))
    ∙ sym (hash_append h z x t (omega arith))
    ∙ ap (hash_from h z) (sym p)
    ∙ q

-- ---- head, whole blocks and tail of a piece of l bytes, the first of number n

abbrev pub head_of : ℕ → ℕ
head_of n = (16 - n % 16) % 16

abbrev pub tail_of : ℕ → ℕ → ℕ
tail_of n l = head_of n + (l - head_of n) / 16 * 16

-- from a block's start at place f on
from_start : (h y : List ℕ) (n : ℕ) (s : List ℕ) (f t : ℕ) → n % 16 ≡ 0 → f ≤ length s → t ≡ f + (length s - f) / 16 * 16
    → absorb h (fresh y) n (slice f (length s) s) ≡ sum (hash_from h y (slice f t s)) (sets zeros 0 (slice t (length s) s))
from_start h y n s f t z k e =
    let d : t ≤ length s = omega arith in
    let a : length (slice f t s) ≡ t - f = length-slice f t s d in
    let b : length (slice t (length s) s) ≡ length s - t = length-slice t (length s) s (omega arith) in
    ap (absorb h (fresh y) n) (slice_split f t (length s) s (omega arith) d (omega arith))
    ∙ absorb_rest h y n (slice f t s) (slice t (length s) s) z (omega arith) (omega arith)

-- the block in use, of which `at` bytes of p are held, filled and hashed
pub block_used : (h y p s : List ℕ) (at : ℕ) → length p ≡ 16 → (at ≡ 0 → ⊥) → at < 16 → 16 ≤ at + length s
    → eat h y (sets p at (slice 0 ((16 - at) % 16) s)) ≡ hash_from h y (take at p ++ slice 0 ((16 - at) % 16) s)
block_used h y p s at l z w k =
    let m : length (slice 0 ((16 - at) % 16) s) ≡ (16 - at) % 16 = length-slice 0 ((16 - at) % 16) s (omega arith) ∙ omega arith in
    let e = sets_end p (slice 0 ((16 - at) % 16) s) at (omega arith) in
    let b : length (take at p ++ slice 0 ((16 - at) % 16) s) ≡ 16 = ap length (sym e) ∙ length-sets p at (slice 0 ((16 - at) % 16) s) ∙ l in
    ap (eat h y) e ∙ sym (hash_one h y (take at p ++ slice 0 ((16 - at) % 16) s) b)

-- which leaves a block's start
filled : (h : List ℕ) (y : Sum) (n : ℕ) (s : List ℕ) → length y.pending ≡ 16 → (n % 16 ≡ 0 → ⊥) → 16 ≤ n % 16 + length s
    → absorb h y n s
    ≡ absorb h (fresh (hash_from h y.hash (take (n % 16) y.pending ++ slice 0 (head_of n) s))) (n + head_of n) (slice (head_of n) (length s) s)
filled h y n s l z k =
    let m : length (slice 0 (head_of n) s) ≡ head_of n = length-slice 0 (head_of n) s (omega arith) ∙ omega arith in
    ap (absorb h y n) (sym (slice_all s) ∙ slice_split 0 (head_of n) (length s) s (omega arith) (omega arith) (omega arith))
    ∙ sym (absorb_append h y n (slice 0 (head_of n) s) (slice (head_of n) (length s) s))
    ∙ ap₂ (λ (u : Sum) (i : ℕ). absorb h u (n + i) (slice (head_of n) (length s) s))
    (absorb_fills h y n (slice 0 (head_of n) s) (omega arith) ∙ ap fresh (block_used h y.hash y.pending s (n % 16) l z (omega arith) k)) m

pub absorb_parts : (h : List ℕ) (y : Sum) (n : ℕ) (s : List ℕ) → length y.pending ≡ 16 → 16 ≤ n % 16 + length s
    → absorb h y n s
    ≡ sum (hash_from h (hash_from h y.hash (take (n % 16) y.pending ++ slice 0 (head_of n) s)) (slice (head_of n) (tail_of n (length s)) s))
    (sets zeros 0 (slice (tail_of n (length s)) (length s) s))
absorb_parts h y n s l k = go (ℕ_discrete (n % 16) 0)
  where
    Goal : Type 0
    Goal =
        absorb h y n s
        ≡ sum (hash_from h (hash_from h y.hash (take (n % 16) y.pending ++ slice 0 (head_of n) s)) (slice (head_of n) (tail_of n (length s)) s))
        (sets zeros 0 (slice (tail_of n (length s)) (length s) s))

    go : Dec (n % 16 ≡ 0) → Goal
    go (yes z) =
        absorb_over h y n s l z (omega arith) ∙ ap (absorb h (fresh y.hash) n) (sym (slice_all s))
        ∙ from_start h y.hash n s 0 (0 + (length s - 0) / 16 * 16) z (omega arith) refl ∙ rw (z, hash_none h y.hash)
    go (no z) =
        filled h y n s l z k
        ∙ from_start h _ (n + head_of n) s (head_of n) (tail_of n (length s)) (omega arith) (omega arith) refl
