-- A number of k bytes and its bytes determine each other, and so do n numbers and their n * k bytes, at every k: cells are k = 2, the words
-- of ⊞32 k = 4. Xor goes through, since it keeps to its digits.
use Rattle.std.proofs.Common.{◌≡◌, ℕ, zero, suc, ◌+◌, ◌-◌, ◌*◌, ◌/◌, ◌%◌, ◌^◌, ◌<◌, ◌≤◌, List, [], ◌∷◌, ◌++◌, length, take, drop, sym, refl, ap, ◌∙◌, subst, ap₂, append_assoc, mod-lt, mul_assoc, mul_comm, arith, lit<, length-append, length-drop, take-append-drop, take_at, drop_at}
use native.Mathlib.Nat.{pow-succ', div-div-eq-div-mul}
use lib.Seq.{take-append-le, drop-append-le}
use Rattle.std.specs.Int.{w32, w64, to_le_bytes}
use Rattle.words.specs.Xor.{◌⊕◌, xors}
use Rattle.words.specs.Bytes.{little, number, littles, numbers, Row}
use Rattle.words.proofs.XorLaws.{⊕-mod, ⊕-shr}
use Rattle.words.proofs.Rows.{Below, row_take, row_drop, row_append, below_append, xors_append}

-- ---- one number

pub little_long : (k n : ℕ) → length (little k n) ≡ k
unfolding little
little_long zero n = refl
little_long (suc k) n = ap suc (little_long k (n / 256))

pub little_below : (k n : ℕ) → Below 256 (little k n)
unfolding little
little_below zero n i = lit< tt
little_below (suc k) n zero = mod-lt n (lit< tt)
little_below (suc k) n (suc i) = little_below k (n / 256) i

pub little_row : (k n : ℕ) → Row k 256 (little k n)
little_row k n = record { long = little_long k n; below = little_below k n }

pub number_little : (k n : ℕ) → n < 256 ^ k → number (little k n) ≡ n
unfolding little number
number_little zero n h = omega arith
number_little (suc k) n h = let ih : number (little k (n / 256)) ≡ n / 256 = number_little k (n / 256) (omega arith) in omega arith

pub little_number : (k : ℕ) (s : List ℕ) → Row k 256 s → little k (number s) ≡ s
unfolding little number
little_number zero [] r = refl
little_number zero (b ∷ s) r = absurd (omega (arith, r.long))
little_number (suc k) [] r = absurd (omega (arith, r.long))
little_number (suc k) (b ∷ s) r =
    let hb : b < 256 = r.below 0 in
    let q : (b + 256 * number s) % 256 ≡ b = omega arith in
    let d : (b + 256 * number s) / 256 ≡ number s = omega arith in
    let ih : little k (number s) ≡ s = little_number k s (record { long = omega (arith, r.long); below = λ i. r.below (suc i) }) in
    ap₂ (λ (x : ℕ) (l : List ℕ). x ∷ l) q (ap (little k) d ∙ ih)

pub number_lt : (k : ℕ) (s : List ℕ) → Row k 256 s → number s < 256 ^ k
unfolding number
number_lt zero [] r = lit< tt
number_lt zero (b ∷ s) r = absurd (omega (arith, r.long))
number_lt (suc k) [] r = absurd (omega (arith, r.long))
number_lt (suc k) (b ∷ s) r =
    let hb : b < 256 = r.below 0 in
    let ih : number s < 256 ^ k = number_lt k s (record { long = omega (arith, r.long); below = λ i. r.below (suc i) }) in
    omega arith

pub little_xor : (k a b : ℕ) → little k (a ⊕ b) ≡ xors (little k a) (little k b)
unfolding little xors
little_xor zero a b = refl
little_xor (suc k) a b =
    ap₂ (λ (x : ℕ) (l : List ℕ). x ∷ l) (⊕-mod a b 8) (ap (little k) (⊕-shr a b 8) ∙ little_xor k (a / 256) (b / 256))

-- ---- several

pub littles_long : (k : ℕ) (xs : List ℕ) → length (littles k xs) ≡ length xs * k
unfolding littles
littles_long k [] = omega arith
littles_long k (x ∷ xs) = length-append (little k x) (littles k xs) ∙ ap₂ ◌+◌ (little_long k x) (littles_long k xs) ∙ omega arith

pub littles_below : (k : ℕ) (xs : List ℕ) → Below 256 (littles k xs)
unfolding littles
littles_below k [] i = lit< tt
littles_below k (x ∷ xs) i = below_append 256 (little k x) (littles k xs) (little_below k x) (littles_below k xs) i

pub littles_append : (k : ℕ) (xs ys : List ℕ) → littles k (xs ++ ys) ≡ littles k xs ++ littles k ys
unfolding littles
littles_append k [] ys = refl
littles_append k (x ∷ xs) ys = ap (λ (l : List ℕ). little k x ++ l) (littles_append k xs ys) ∙ sym (append_assoc (little k x) (littles k xs) (littles k ys))

pub littles_xor : (k : ℕ) (s t : List ℕ) → length s ≡ length t → littles k (xors s t) ≡ xors (littles k s) (littles k t)
unfolding littles xors
littles_xor k [] [] e = refl
littles_xor k [] (b ∷ t) e = absurd (omega arith)
littles_xor k (a ∷ s) [] e = absurd (omega arith)
littles_xor k (a ∷ s) (b ∷ t) e =
    ap₂ (λ (x y : List ℕ). x ++ y) (little_xor k a b) (littles_xor k s t (omega arith))
    ∙ sym (xors_append (little k a) (little k b) (littles k s) (littles k t) (little_long k a ∙ sym (little_long k b)))

pub numbers_long : (k n : ℕ) (s : List ℕ) → length (numbers k n s) ≡ n
unfolding numbers
numbers_long k zero s = refl
numbers_long k (suc n) s = ap suc (numbers_long k n (drop k s))

row_head : (k n : ℕ) (s : List ℕ) → Row (suc n * k) 256 s → Row k 256 (take k s)
row_head k n s r = row_take 256 (suc n * k) r k (lit< tt) (omega arith)

row_tail : (k n : ℕ) (s : List ℕ) → Row (suc n * k) 256 s → Row (n * k) 256 (drop k s)
row_tail k n s r = let e : suc n * k - k ≡ n * k = omega arith in subst (λ (l : ℕ). Row l 256 (drop k s)) e (row_drop 256 (suc n * k) r k)

numbers_below : (k n : ℕ) (s : List ℕ) → Row (n * k) 256 s → 0 < 256 ^ k → Below (256 ^ k) (numbers k n s)
unfolding numbers
numbers_below k zero s r z i = z
numbers_below k (suc n) s r z zero = number_lt k (take k s) (row_head k n s r)
numbers_below k (suc n) s r z (suc i) = numbers_below k n (drop k s) (row_tail k n s r) z i

pub numbers_row : (k n : ℕ) {s : List ℕ} → 0 < 256 ^ k → Row (n * k) 256 s → Row n (256 ^ k) (numbers k n s)
numbers_row k n {s} z r = record { long = numbers_long k n s; below = numbers_below k n s r z }

pub littles_numbers : (k n : ℕ) (s : List ℕ) → Row (n * k) 256 s → littles k (numbers k n s) ≡ s
unfolding littles numbers
littles_numbers k zero [] r = refl
littles_numbers k zero (b ∷ s) r = absurd (omega (arith, r.long))
littles_numbers k (suc n) s r =
    ap₂ (λ (x y : List ℕ). x ++ y) (little_number k (take k s) (row_head k n s r)) (littles_numbers k n (drop k s) (row_tail k n s r))
    ∙ take-append-drop k s

pub numbers_littles : (k n : ℕ) (xs : List ℕ) → Row n (256 ^ k) xs → numbers k n (littles k xs) ≡ xs
unfolding littles numbers
numbers_littles k zero [] r = refl
numbers_littles k zero (x ∷ xs) r = absurd (omega (arith, r.long))
numbers_littles k (suc n) [] r = absurd (omega (arith, r.long))
numbers_littles k (suc n) (x ∷ xs) r =
    ap₂ (λ (y : ℕ) (l : List ℕ). y ∷ l)
    (ap number (take_at (little k x) (littles k xs) k (little_long k x)) ∙ number_little k x (r.below 0))
    (ap (numbers k n) (drop_at (little k x) (littles k xs) k (little_long k x))
    ∙ numbers_littles k n xs (record { long = omega (arith, r.long); below = λ i. r.below (suc i) }))

-- from the front of a longer list
pub numbers_front : (k n : ℕ) (u v : List ℕ) → n * k ≤ length u → numbers k n (u ++ v) ≡ numbers k n u
unfolding numbers
numbers_front k zero u v h = refl
numbers_front k (suc n) u v h =
    let h2 : k ≤ length u = first k n (length u) h in
    ap₂ (λ (a : List ℕ) (b : List ℕ). number a ∷ b) (take-append-le k u v h2)
    (ap (numbers k n) (drop-append-le k u v h2) ∙ numbers_front k n (drop k u) v (rw (length-drop k u) (rest k n (length u) h)))
  where
    first : (k n l : ℕ) → suc n * k ≤ l → k ≤ l
    first k n l h = omega arith

    rest : (k n l : ℕ) → suc n * k ≤ l → n * k ≤ l - k
    rest k n l h = omega arith

-- ---- one number of two

pub number_append : (s t : List ℕ) → number (s ++ t) ≡ number s + 256 ^ length s * number t
unfolding number
number_append [] t = omega arith
number_append (b ∷ s) t =
    let ih : number (s ++ t) ≡ number s + 256 ^ length s * number t = number_append s t in
    let e : 256 ^ suc (length s) * number t ≡ 256 * (256 ^ length s * number t) =
    ap (λ (p : ℕ). p * number t) (pow-succ' 256 (length s)) ∙ mul_assoc 256 (256 ^ length s) (number t) in
    omega arith

-- the bytes of a number of twice as many bytes, from its two halves
pub little_join : (k x y : ℕ) → x < 256 ^ k → y < 256 ^ k → little (k + k) (x + 256 ^ k * y) ≡ little k x ++ little k y
little_join k x y hx hy =
    let n : number (little k x ++ little k y) ≡ x + 256 ^ k * y =
    number_append (little k x) (little k y)
    ∙ ap₂ (λ (u v : ℕ). u + 256 ^ length (little k x) * v) (number_little k x hx) (number_little k y hy)
    ∙ ap (λ (l : ℕ). x + 256 ^ l * y) (little_long k x) in
    ap (little (k + k)) (sym n) ∙ little_number (k + k) (little k x ++ little k y) (row_append 256 k k (little_row k x) (little_row k y))

-- two words
pub little_pair : (a b : ℕ) → a < 2 ^ 32 → b < 2 ^ 32 → little 8 (a + b * 0x100000000) ≡ little 4 a ++ little 4 b
little_pair a b ha hb = ap (λ (n : ℕ). little 8 (a + n)) (mul_comm b 0x100000000) ∙ little_join 4 a b ha hb

-- ---- what `to_le_bytes` gives

pub little_of_word : (x : ℕ) → to_le_bytes w32 x ≡ little 4 x
unfolding little
little_of_word x = simp div-div-eq-div-mul

pub little_of_half : (x : ℕ) → to_le_bytes w64 x ≡ little 8 x
unfolding little
little_of_half x = simp div-div-eq-div-mul
