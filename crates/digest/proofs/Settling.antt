-- Bytes from a block's start on, in closed form: the hash is that of their whole blocks, and the rest is held with zeros behind. Settled, that
-- is the hash of all of them padded with zeros.
use mathlib.Core.Path.{◌≡◌, refl, sym, ap, ap₂, ◌∙◌}
use mathlib.Core.List.{List, ◌++◌, append-nil, append_assoc}
use Prim.Native.Nat.{ℕ, zero, suc, ◌-◌, ◌*◌, ◌/◌, ◌%◌, ◌≤◌, ◌<◌}
use native.Mathlib.Nat.{sub-zero, zero-sub, suc-sub-suc, zero-add}
use native.Mathlib.Decide.{ℕ_discrete}
use native.Mathlib.Omega.{arith}
use borrow.Author.Tests.{ne_eqb}
use lib.ListN.{length, drop, replicate, length-append, length-drop, length-replicate, take-append-drop}
use lib.Seq.{sets, sets-eq, length-take-le}
use Rattle.words.specs.Bytes.{zeros}
use Rattle.ghash.specs.Hash.{eat, eats, blocks_of, hash_from, whole_blocks, rest, padded}
use Rattle.ghash.proofs.Hashing.{hash_append, hash_one}
use Rattle.digest.specs.Sum.{Sum, fresh}
use Rattle.digest.specs.Digest.{absorb, settled}
use Rattle.digest.proofs.Pieces.{sum, absorb_rest}

pub drop_replicate : (n m a : ℕ) → drop n (replicate m a) ≡ replicate (m - n) a
drop_replicate zero m a = rw sub-zero
drop_replicate (suc n) zero a = rw zero-sub
drop_replicate (suc n) (suc m) a = rw suc-sub-suc (drop_replicate n m a)

-- bytes at the front of a block of zeros
pub sets_zeros : (s : List ℕ) → length s ≤ 16 → sets zeros 0 s ≡ s ++ replicate (16 - length s) 0
sets_zeros s k = sets-eq s zeros 0 (rw zero-add k) ∙ rw zero-add (ap (λ (r : List ℕ). s ++ r) (drop_replicate (length s) 16 0))

pub rest_long : (s : List ℕ) → length (rest s) ≡ length s % 16
rest_long s = simp length-drop (omega arith)

front_long : (s : List ℕ) → length (whole_blocks s) ≡ length s / 16 * 16
front_long s = length-take-le (length s / 16 * 16) s (omega arith)

front_whole : (s : List ℕ) → length (whole_blocks s) % 16 ≡ 0
front_whole s = rw (front_long s) (omega arith)

front_rest : (s : List ℕ) → whole_blocks s ++ rest s ≡ s
front_rest s = take-append-drop (length s / 16 * 16) s

-- less than a block is not hashed
pub hash_short : (h y s : List ℕ) → length s < 16 → hash_from h y s ≡ y
unfolding hash_from blocks_of eats
hash_short h y s k = let e : length s / 16 ≡ 0 = omega arith in rw e

pub hash_front : (h y s : List ℕ) → hash_from h y (whole_blocks s) ≡ hash_from h y s
hash_front h y s =
    let k = rest_long s in
    sym (hash_short h (hash_from h y (whole_blocks s)) (rest s) (omega arith))
    ∙ sym (hash_append h y (whole_blocks s) (rest s) (front_whole s))
    ∙ ap (hash_from h y) (front_rest s)

-- ---- what is hashed, and what is held

pub absorb_fresh : (h y : List ℕ) (n : ℕ) (s : List ℕ) → n % 16 ≡ 0
    → absorb h (fresh y) n s ≡ sum (hash_from h y s) (rest s ++ replicate (16 - length s % 16) 0)
absorb_fresh h y n s z =
    let k = rest_long s in
    ap (absorb h (fresh y) n) (sym (front_rest s))
    ∙ absorb_rest h y n (whole_blocks s) (rest s) z (front_whole s) (omega arith)
    ∙ ap₂ sum (hash_front h y s)
    (sets_zeros (rest s) (omega arith) ∙ ap (λ (i : ℕ). rest s ++ replicate (16 - i) 0) k)

pub absorb_hash : (h y s : List ℕ) → (absorb h (fresh y) 0 s).hash ≡ hash_from h y s
absorb_hash h y s = ap (λ (u : Sum). u.hash) (absorb_fresh h y 0 s refl)

-- ---- settled

pub settled_whole : (h : List ℕ) (y : Sum) (n : ℕ) → n % 16 ≡ 0 → settled h y n ≡ y.hash
unfolding settled
settled_whole h y n e = rw e

pub settled_held : (h : List ℕ) (y : Sum) (n : ℕ) → (n % 16 ≡ 0 → ⊥) → settled h y n ≡ eat h y.hash y.pending
unfolding settled
settled_held h y n e = rw (ne_eqb (n % 16) 0 e)

-- a short block at the front of a block of zeros
pub sets_padded : (s : List ℕ) → 0 < length s → length s < 16 → sets zeros 0 s ≡ padded s
sets_padded s h k = sets_zeros s (omega arith) ∙ ap (λ (n : ℕ). s ++ replicate n 0) (let e : 16 - length s ≡ (16 - length s % 16) % 16 = omega arith in e)

pub settled_padded : (h y s : List ℕ) → settled h (absorb h (fresh y) 0 s) (length s) ≡ hash_from h y (padded s)
settled_padded h y s = go (ℕ_discrete (length s % 16) 0)
  where
    go : Dec (length s % 16 ≡ 0) → settled h (absorb h (fresh y) 0 s) (length s) ≡ hash_from h y (padded s)
    go (yes e) = settled_whole h (absorb h (fresh y) 0 s) (length s) e ∙ absorb_hash h y s ∙ rw (e, append-nil s)
    go (no e) =
        let n : (16 - length s % 16) % 16 ≡ 16 - length s % 16 = omega arith in
        let k : length (rest s ++ replicate (16 - length s % 16) 0) ≡ 16 = simp (length-append, rest_long, length-replicate) (omega arith) in
        let front = whole_blocks s in
        let last = rest s ++ replicate (16 - length s % 16) 0 in
        settled_held h (absorb h (fresh y) 0 s) (length s) e
        ∙ ap (λ (u : Sum). eat h u.hash u.pending) (absorb_fresh h y 0 s refl)
        ∙ ap (λ (a : List ℕ). eat h a last) (sym (hash_front h y s))
        ∙ sym (hash_one h (hash_from h y front) last k)
        ∙ sym (hash_append h y front last (front_whole s))
        ∙ ap (hash_from h y) (sym (append_assoc front (rest s) (replicate (16 - length s % 16) 0)))
        ∙ ap₂ (λ (t : List ℕ) (i : ℕ). hash_from h y (t ++ replicate i 0)) (front_rest s) (sym n)
