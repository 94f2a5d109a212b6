-- Bytes in pieces are hashed as at once. Bytes that stay in the block in use only set it, and those that fill it send it on, so that whole
-- blocks are hashed one after the other and what is left of the last stays behind, with zeros after it.
use mathlib.Core.Path.{◌≡◌, refl, sym, ap, ◌∙◌}
use mathlib.Core.List.{List, [], ◌∷◌, ◌++◌, append-nil}
use Prim.Native.Nat.{ℕ, zero, suc, ◌+◌, ◌*◌, ◌/◌, ◌%◌, ◌≤◌, ◌<◌}
use native.Mathlib.Nat.{add-zero}
use native.Mathlib.Decide.{ℕ_discrete}
use native.Mathlib.Omega.{arith}
use borrow.Author.Tests.{ne_eqb}
use lib.Dec.{eqb}
use lib.ListN.{length, take, drop, set, length-take, length-drop, take-append-drop, drop_of_length-le}
use lib.Seq.{sets, sets-eq, length-take-le}
use Rattle.scope.specs.Refusals.{pick}
use Rattle.words.specs.Bytes.{zeros}
use Rattle.ghash.specs.Hash.{eat, hash_from}
use Rattle.ghash.proofs.Hashing.{hash_append, hash_none, hash_one}
use Rattle.digest.specs.Sum.{Sum, fresh}
use Rattle.digest.specs.Digest.{push, absorb}

-- a hash with bytes held
abbrev pub sum : List ℕ → List ℕ → Sum
sum y p = record { hash = y; pending = p }

-- the block in use becomes q with m bytes: a whole one is sent on
abbrev pub sent : (h : List ℕ) → Sum → (q : List ℕ) → (m : ℕ) → Sum
sent h y q m = pick (eqb m 16) (fresh (eat h y.hash q)) (sum y.hash q)

-- ---- pieces

pub absorb_none : (h : List ℕ) (y : Sum) (n : ℕ) → absorb h y n [] ≡ y
unfolding absorb
absorb_none h y n = refl

pub absorb_cons : (h : List ℕ) (y : Sum) (n b : ℕ) (s : List ℕ) → absorb h y n (b ∷ s) ≡ absorb h (push h y n b) (n + 1) s
unfolding absorb
absorb_cons h y n b s = refl

pub absorb_one : (h : List ℕ) (y : Sum) (n b : ℕ) → absorb h y n (b ∷ []) ≡ push h y n b
unfolding absorb
absorb_one h y n b = refl

pub absorb_append : (h : List ℕ) (y : Sum) (n : ℕ) (p q : List ℕ) → absorb h (absorb h y n p) (n + length p) q ≡ absorb h y n (p ++ q)
unfolding absorb
absorb_append h y n [] q = rw (add-zero n)
absorb_append h y n (b ∷ p) q =
    let e : n + suc (length p) ≡ n + 1 + length p = omega arith in
    rw e (absorb_append h (push h y n b) (n + 1) p q)

-- ---- in one block

pub push_inside : (h : List ℕ) (y : Sum) (n b : ℕ) → n % 16 < 15 → push h y n b ≡ sum y.hash (set y.pending (n % 16) b)
unfolding push
push_inside h y n b k = rw (ne_eqb (n % 16) 15 (omega arith))

pub push_fills : (h : List ℕ) (y : Sum) (n b : ℕ) → n % 16 ≡ 15 → push h y n b ≡ fresh (eat h y.hash (set y.pending (n % 16) b))
unfolding push
push_fills h y n b e = rw e

-- the block law: bytes up to the end of the block in use
pub absorb_part : (h : List ℕ) (y : Sum) (n : ℕ) (s : List ℕ) → n % 16 + length s ≤ 16
    → absorb h y n s ≡ sent h y (sets y.pending (n % 16) s) (n % 16 + length s)
unfolding absorb
absorb_part h y n [] k = rw (ne_eqb (n % 16 + 0) 16 (omega arith))
absorb_part h y n (b ∷ []) k = go (ℕ_discrete (n % 16) 15)
  where
    go : Dec (n % 16 ≡ 15) → push h y n b ≡ sent h y (set y.pending (n % 16) b) (n % 16 + 1)
    go (yes e) = push_fills h y n b e ∙ rw e
    go (no e) = push_inside h y n b (omega (arith, e)) ∙ rw (ne_eqb (n % 16 + 1) 16 (omega (arith, e)))
absorb_part h y n (b ∷ d ∷ s) k =
    let i : (n + 1) % 16 ≡ suc (n % 16) = omega arith in
    let m : suc (n % 16) + suc (length s) ≡ n % 16 + suc (suc (length s)) = omega arith in
    rw (push_inside h y n b (omega arith)) (absorb_part h (sum y.hash (set y.pending (n % 16) b)) (n + 1) (d ∷ s) (omega arith) ∙ rw (i, m))

pub absorb_inside : (h : List ℕ) (y : Sum) (n : ℕ) (s : List ℕ) → n % 16 + length s < 16
    → absorb h y n s ≡ sum y.hash (sets y.pending (n % 16) s)
absorb_inside h y n s k = absorb_part h y n s (omega arith) ∙ rw (ne_eqb (n % 16 + length s) 16 (omega arith))

pub absorb_fills : (h : List ℕ) (y : Sum) (n : ℕ) (s : List ℕ) → n % 16 + length s ≡ 16
    → absorb h y n s ≡ fresh (eat h y.hash (sets y.pending (n % 16) s))
absorb_fills h y n s e = absorb_part h y n s (omega arith) ∙ rw e

-- bytes at the end of a block
pub sets_end : (p s : List ℕ) (i : ℕ) → i + length s ≡ length p → sets p i s ≡ take i p ++ s
sets_end p s i e =
    sets-eq s p i (omega arith)
    ∙ ap (λ (r : List ℕ). take i p ++ s ++ r) (drop_of_length-le p {i = i + length s} (omega arith))
    ∙ append-nil (take i p ++ s)

-- a whole block, whatever stood in its place
pub absorb_block : (h : List ℕ) (y : Sum) (n : ℕ) (s : List ℕ) → length y.pending ≡ 16 → n % 16 ≡ 0 → length s ≡ 16
    → absorb h y n s ≡ fresh (eat h y.hash s)
absorb_block h y n s l z e =
    absorb_fills h y n s (omega arith) ∙ rw z (ap (λ (q : List ℕ). fresh (eat h y.hash q)) (sets_end y.pending s 0 (omega arith)))

-- ---- whole blocks

-- a piece in two
cut : (h : List ℕ) (y : Sum) (n k : ℕ) (s : List ℕ) → k ≤ length s → absorb h y n s ≡ absorb h (absorb h y n (take k s)) (n + k) (drop k s)
cut h y n k s e =
    ap (absorb h y n) (sym (take-append-drop k s)) ∙ sym (absorb_append h y n (take k s) (drop k s))
    ∙ ap (λ (i : ℕ). absorb h (absorb h y n (take k s)) (n + i) (drop k s)) (length-take-le k s e)

whole : (m : ℕ) (h y : List ℕ) (n : ℕ) (s : List ℕ) → n % 16 ≡ 0 → length s ≡ m * 16 → absorb h (fresh y) n s ≡ fresh (hash_from h y s)
whole zero h y n [] z e = absorb_none h (fresh y) n ∙ ap fresh (sym (hash_none h y))
whole zero h y n (b ∷ s) z e = absurd (omega arith)
whole (suc m) h y n s z e =
    let k : length (take 16 s) ≡ 16 = simp length-take (omega arith) in
    let l : length (drop 16 s) ≡ m * 16 = simp length-drop (omega arith) in
    let f : length (take 16 s) % 16 ≡ 0 = omega arith in
    cut h (fresh y) n 16 s (omega arith)
    ∙ ap (λ (u : Sum). absorb h u (n + 16) (drop 16 s)) (absorb_block h (fresh y) n (take 16 s) refl z k ∙ ap fresh (sym (hash_one h y (take 16 s) k)))
    ∙ whole m h (hash_from h y (take 16 s)) (n + 16) (drop 16 s) (omega arith) l
    ∙ ap fresh (sym (hash_append h y (take 16 s) (drop 16 s) f) ∙ ap (hash_from h y) (take-append-drop 16 s))

pub absorb_whole : (h y : List ℕ) (n : ℕ) (s : List ℕ) → n % 16 ≡ 0 → length s % 16 ≡ 0 → absorb h (fresh y) n s ≡ fresh (hash_from h y s)
absorb_whole h y n s z e = whole (length s / 16) h y n s z (omega arith)

-- whole blocks, and less than one
pub absorb_rest : (h y : List ℕ) (n : ℕ) (s r : List ℕ) → n % 16 ≡ 0 → length s % 16 ≡ 0 → length r < 16
    → absorb h (fresh y) n (s ++ r) ≡ sum (hash_from h y s) (sets zeros 0 r)
absorb_rest h y n s r z e k =
    let i : (n + length s) % 16 ≡ 0 = omega arith in
    sym (absorb_append h (fresh y) n s r)
    ∙ ap (λ (u : Sum). absorb h u (n + length s) r) (absorb_whole h y n s z e)
    ∙ absorb_inside h (fresh (hash_from h y s)) (n + length s) r (omega arith)
    ∙ rw i

-- from a block's start on, what stood in its place is gone once it is full
pub absorb_over : (h : List ℕ) (y : Sum) (n : ℕ) (s : List ℕ) → length y.pending ≡ 16 → n % 16 ≡ 0 → 16 ≤ length s
    → absorb h y n s ≡ absorb h (fresh y.hash) n s
absorb_over h y n s l z k =
    let e : length (take 16 s) ≡ 16 = simp length-take (omega arith) in
    cut h y n 16 s k
    ∙ ap (λ (u : Sum). absorb h u (n + 16) (drop 16 s))
    (absorb_block h y n (take 16 s) l z e ∙ sym (absorb_block h (fresh y.hash) n (take 16 s) refl z e))
    ∙ sym (cut h (fresh y.hash) n 16 s k)
