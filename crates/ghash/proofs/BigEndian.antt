-- Bytes, high byte first, and the number that they spell determine each other; strings joined are digits joined; and xor goes through, since it
-- keeps to its digits.
use mathlib.Core.Path.{◌≡◌, refl, sym, ap, ap₂, ◌∙◌}
use mathlib.Core.List.{List, [], ◌∷◌, ◌++◌}
use Prim.Native.Nat.{ℕ, zero, suc, ◌+◌, ◌*◌, ◌/◌, ◌%◌, ◌^◌, ◌<◌}
use native.Mathlib.Omega.{arith}
use native.Mathlib.Nat.{mod-lt, mod-one, mod-eq_of_lt, zero-add, add-mul, mul_assoc, add_assoc, add_comm, suc-add, pow-zero, pow-succ', one-le-pow, div-div-eq-div-mul, mul-add-div_right, mul-add-mod_self_right}
use lib.Arith.{digits_lt, digits_div, mod-mul}
use lib.Bits.{xor_block}
use lib.Dec.{lit<}
use lib.ListN.{length, length-append}
use lib.Pow.{pow-add}
use Rattle.words.specs.Xor.{◌⊕◌, xors}
use Rattle.words.specs.Bytes.{Row}
use Rattle.words.proofs.Rows.{Below, xors_row}
use Rattle.words.proofs.XorLaws.{⊕-zero-l}
use Rattle.ghash.specs.Hash.{big, bigs}

-- ---- powers

pub 256-pos : (k : ℕ) → 0 < 256 ^ k
256-pos k = one-le-pow k 256 (lit< tt)

-- 2 ^ b to the k
pub pow_pow : (b k : ℕ) → (2 ^ b) ^ k ≡ 2 ^ (b * k)
pow_pow b zero = pow-zero (2 ^ b) ∙ ap (λ (e : ℕ). 2 ^ e) (let e : 0 ≡ b * 0 = omega arith in e)
pow_pow b (suc k) =
    pow-succ' (2 ^ b) k ∙ ap (λ (m : ℕ). 2 ^ b * m) (pow_pow b k) ∙ sym (pow-add 2 b (b * k))
    ∙ ap (λ (e : ℕ). 2 ^ e) (let e : b + b * k ≡ b * suc k = omega arith in e)

-- xor keeps to its digits
pub ⊕-block : (k a b r s : ℕ) → r < 2 ^ k → s < 2 ^ k → (a * 2 ^ k + r) ⊕ (b * 2 ^ k + s) ≡ (a ⊕ b) * 2 ^ k + (r ⊕ s)
unfolding ◌⊕◌
⊕-block = xor_block

-- ---- rows of bytes

tail_row : (k b : ℕ) (s : List ℕ) → Row (suc k) 256 (b ∷ s) → Row k 256 s
tail_row k b s r = record { long = omega (arith, r.long); below = λ i. r.below (suc i) }

pub bigs_long : (k n : ℕ) → length (bigs k n) ≡ k
unfolding bigs
bigs_long zero n = refl
bigs_long (suc k) n = ap suc (bigs_long k n)

bigs_below : (k n : ℕ) → Below 256 (bigs k n)
unfolding bigs
bigs_below zero n i = lit< tt
bigs_below (suc k) n zero = mod-lt (n / 256 ^ k) (lit< tt)
bigs_below (suc k) n (suc i) = bigs_below k n i

pub bigs_row : (k n : ℕ) → Row k 256 (bigs k n)
bigs_row k n = record { long = bigs_long k n; below = bigs_below k n }

-- ---- the number

pub big_lt : (k : ℕ) (s : List ℕ) → Row k 256 s → big s < 256 ^ k
unfolding big
big_lt zero [] r = lit< tt
big_lt zero (b ∷ s) r = absurd (omega (arith, r.long))
big_lt (suc k) [] r = absurd (omega (arith, r.long))
big_lt (suc k) (b ∷ s) r =
    let t = tail_row k b s r in
    rw (t.long, pow-succ' 256 k) (digits_lt (r.below 0) (big_lt k s t))

pub big_append : (s t : List ℕ) → big (s ++ t) ≡ big s * 256 ^ length t + big t
unfolding big
big_append [] t = omega arith
big_append (b ∷ s) t =
    ap₂ (λ (m n : ℕ). b * m + n) (ap (λ (l : ℕ). 256 ^ l) (length-append s t) ∙ pow-add 256 (length s) (length t)) (big_append s t)
    ∙ rw (add-mul (b * 256 ^ length s) (big s) (256 ^ length t), mul_assoc b (256 ^ length s) (256 ^ length t)) (sym (add_assoc _ _ _))

-- ---- to bytes and back

-- what stands above the k bytes does not matter
pub bigs_low : (k a n : ℕ) → bigs k (a * 256 ^ k + n) ≡ bigs k n
unfolding bigs
bigs_low zero a n = refl
bigs_low (suc k) a n =
    let e : a * 256 ^ suc k + n ≡ a * 256 * 256 ^ k + n = ap (λ (m : ℕ). m + n) (ap (λ (p : ℕ). a * p) (pow-succ' 256 k) ∙ sym (mul_assoc a 256 (256 ^ k))) in
    let d : (a * 256 * 256 ^ k + n) / 256 ^ k % 256 ≡ n / 256 ^ k % 256 =
    ap (λ (q : ℕ). q % 256) (mul-add-div_right (256-pos k) (a * 256) n) ∙ mul-add-mod_self_right a 256 (n / 256 ^ k) in
    rw e (ap₂ (λ (x : ℕ) (l : List ℕ). x ∷ l) d (bigs_low k (a * 256) n))

pub bigs_append : (j k a b : ℕ) → b < 256 ^ k → bigs (j + k) (a * 256 ^ k + b) ≡ bigs j a ++ bigs k b
unfolding bigs
bigs_append zero k a b h = ap (λ (n : ℕ). bigs n (a * 256 ^ k + b)) (zero-add k) ∙ bigs_low k a b
bigs_append (suc j) k a b h =
    let n = a * 256 ^ k + b in
    let d : n / 256 ^ (j + k) ≡ a / 256 ^ j =
    ap (λ (p : ℕ). n / p) (ap (λ (e : ℕ). 256 ^ e) (add_comm j k) ∙ pow-add 256 k j) ∙ sym (div-div-eq-div-mul n (256 ^ k) (256 ^ j))
    ∙ ap (λ (q : ℕ). q / 256 ^ j) (digits_div a h) in
    ap (λ (m : ℕ). bigs m n) (suc-add j k) ∙ ap₂ (λ (x : ℕ) (l : List ℕ). x % 256 ∷ l) d (bigs_append j k a b h)

big_mod : (k n : ℕ) → big (bigs k n) ≡ n % 256 ^ k
unfolding big bigs
big_mod zero n = sym (mod-one n)
big_mod (suc k) n =
    ap₂ (λ (l m : ℕ). (n / 256 ^ k % 256) * 256 ^ l + m) (bigs_long k n) (big_mod k n)
    ∙ sym (ap (λ (p : ℕ). n % p) (pow-succ' 256 k) ∙ mod-mul n (lit< tt) (256-pos k))

pub big_bigs : (k n : ℕ) → n < 256 ^ k → big (bigs k n) ≡ n
big_bigs k n h = big_mod k n ∙ mod-eq_of_lt h

pub bigs_big : (k : ℕ) (s : List ℕ) → Row k 256 s → bigs k (big s) ≡ s
unfolding big bigs
bigs_big zero [] r = refl
bigs_big zero (b ∷ s) r = absurd (omega (arith, r.long))
bigs_big (suc k) [] r = absurd (omega (arith, r.long))
bigs_big (suc k) (b ∷ s) r =
    let t = tail_row k b s r in
    let d : (b * 256 ^ k + big s) / 256 ^ k % 256 ≡ b = ap (λ (q : ℕ). q % 256) (digits_div b (big_lt k s t)) ∙ mod-eq_of_lt (r.below 0) in
    rw t.long (ap₂ (λ (x : ℕ) (l : List ℕ). x ∷ l) d (bigs_low k b (big s) ∙ bigs_big k s t))

-- ---- xor

pub big_xors : (k : ℕ) (s t : List ℕ) → Row k 256 s → Row k 256 t → big (xors s t) ≡ big s ⊕ big t
unfolding big xors
big_xors zero [] [] p q = sym (⊕-zero-l 0)
big_xors zero [] (b ∷ t) p q = absurd (omega (arith, q.long))
big_xors zero (a ∷ s) t p q = absurd (omega (arith, p.long))
big_xors (suc k) [] t p q = absurd (omega (arith, p.long))
big_xors (suc k) (a ∷ s) [] p q = absurd (omega (arith, q.long))
big_xors (suc k) (a ∷ s) (b ∷ t) p q =
    let ps = tail_row k a s p in
    let qs = tail_row k b t q in
    let e : 256 ^ k ≡ 2 ^ (8 * k) = pow_pow 8 k in
    let l : length (xors s t) ≡ k = (xors_row 8 k ps qs).long in
    rw (l, ps.long, qs.long, big_xors k s t ps qs, e)
    (sym (⊕-block (8 * k) a b (big s) (big t) (rw e at (big_lt k s ps)) (rw e at (big_lt k t qs))))
