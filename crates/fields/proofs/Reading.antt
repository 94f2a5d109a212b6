-- The loops that read: a number from its highest byte down, cells one by one into an array, and the sum of words.
use Rattle.std.proofs.Common.{◌≡◌, ℕ, suc, ◌+◌, ◌-◌, ◌*◌, ◌%◌, ◌^◌, ◌<◌, ◌≤◌, List, ◌++◌, length, get_or, take, drop, set, sym, ap, ◌∙◌, lt_of_lt_of_le, mod-lt, pow-suc, add-one, arith, lit<, length-drop, take-append-drop, length-take-le, drop-drop}
use native.Mathlib.Nat.{pow-le-pow_right}
use lib.Arith.{digits_lt}
use lib.Seq.{sets}
use Rattle.words.specs.Bytes.{number, numbers, part}
use Rattle.words.proofs.Bytes.{numbers_long, numbers_front}
use Rattle.words.proofs.Parts.{part_next}
use Rattle.words.proofs.Writing.{put_whole}
use Rattle.fields.specs.Fields.{total, check}

-- ---- a number

pub get_none : (s : List ℕ) (at k : ℕ) → 0 ≡ number (part (at + k) (k - k) s)
unfolding number
get_none s at k = let e : k - k ≡ 0 = omega arith in rw e

pub get_more : (s : List ℕ) (at k i n b : ℕ) → 0 < i → i ≤ k → at + k ≤ length s → n ≡ number (part (at + i) (k - i) s)
    → b ≡ get_or s (at + (i - 1)) 0 → n * 256 + b ≡ number (part (at + (i - 1)) (k - (i - 1)) s)
unfolding number
get_more s at k i n b h h2 h3 en eb =
    let e : i - 1 + 1 ≡ i = omega arith in
    let p : number (part (at + (i - 1)) (k - (i - 1)) s) ≡ get_or s (at + (i - 1)) 0 + 256 * number (part (at + (i - 1 + 1)) (k - (i - 1 + 1)) s) =
    ap number (part_next s at k (i - 1) (omega arith) h3) in
    let q : number (part (at + (i - 1)) (k - (i - 1)) s) ≡ get_or s (at + (i - 1)) 0 + 256 * number (part (at + i) (k - i) s) = rw e at p in
    omega arith

pub more_lt : (w b i : ℕ) → w < 256 ^ i → b < 256 → w * 256 + b < 256 ^ (i + 1)
more_lt w b i hw hb = rw (add-one i, pow-suc 256 i) (digits_lt hw hb)

pub few_lt : (w b i : ℕ) → w < 256 ^ i → b < 256 → i < 8 → w * 256 + b < 2 ^ 64
few_lt w b i hw hb hi =
    let k : w < 256 ^ 7 = lt_of_lt_of_le hw (pow-le-pow_right (lit< tt) {i = i} {j = 7} (omega arith)) in
    digits_lt k hb

-- ---- cells

pub cells_none : (s : List ℕ) (at : ℕ) (r : List ℕ) → at + 32 ≤ length s → length r ≡ 16
    → sets r 0 (numbers 2 16 (drop (at + 2 * 0) s)) ≡ numbers 2 16 (part at 32 s)
cells_none s at r h n =
    let e : at + 2 * 0 ≡ at = omega arith in
    let l : length (take 32 (drop at s)) ≡ 32 = length-take-le 32 (drop at s) (rw (length-drop at s) (omega arith)) in
    put_whole r (numbers 2 16 (drop (at + 2 * 0) s)) (numbers_long 2 16 (drop (at + 2 * 0) s) ∙ sym n)
    ∙ ap (λ (j : ℕ). numbers 2 16 (drop j s)) e
    ∙ ap (numbers 2 16) (sym (take-append-drop 32 (drop at s)))
    ∙ numbers_front 2 16 (part at 32 s) (drop 32 (drop at s)) (omega arith)

pub cells_more : (k n : ℕ) (s : List ℕ) (at i x : ℕ) (r t : List ℕ) → i < n → x ≡ number (part (at + k * i) k s)
    → sets r i (numbers k (n - i) (drop (at + k * i) s)) ≡ t → sets (set r i x) (i + 1) (numbers k (n - (i + 1)) (drop (at + k * (i + 1)) s)) ≡ t
unfolding numbers
cells_more k n s at i x r t h ex q =
    let e : n - i ≡ suc (n - (i + 1)) = omega arith in
    let f : i + 1 ≡ suc i = omega arith in
    let d : drop k (drop (at + k * i) s) ≡ drop (at + k * (i + 1)) s = drop-drop k (at + k * i) s ∙ ap (λ (j : ℕ). drop j s) (next k i at) in
    ap (λ (j : ℕ). sets (set r i x) j (numbers k (n - (i + 1)) (drop (at + k * (i + 1)) s))) f
    ∙ rw (ex, ← d) (rw e at q)
  where
    next : (k i at : ℕ) → at + k * i + k ≡ at + k * (i + 1)
    next k i at = omega arith

pub cells_all : (k : ℕ) (s : List ℕ) (r t : List ℕ) (i m : ℕ) → m ≡ 0 → sets r i (numbers k m s) ≡ t → r ≡ t
unfolding numbers
cells_all k s r t i m e q = rw e at q

-- ---- the check

pub sum_none : (s : List ℕ) → (0 + total (numbers 4 (127 - 0) (drop (4 * 0) s))) % 2 ^ 32 ≡ check s
unfolding check
sum_none s = let e : 0 + total (numbers 4 127 s) ≡ total (numbers 4 127 s) = omega arith in rw e

pub sum_more : (s : List ℕ) (n i sum w y t : ℕ) → i < n → w ≡ number (part (4 * i) 4 s) → y ≡ (sum + w) % 2 ^ 32
    → (sum + total (numbers 4 (n - i) (drop (4 * i) s))) % 2 ^ 32 ≡ t → (y + total (numbers 4 (n - (i + 1)) (drop (4 * (i + 1)) s))) % 2 ^ 32 ≡ t
unfolding numbers total
sum_more s n i sum w y t h ew ey q =
    let e : n - i ≡ suc (n - (i + 1)) = omega arith in
    let f : 4 * i + 4 ≡ 4 * (i + 1) = omega arith in
    let rest = total (numbers 4 (n - (i + 1)) (drop (4 * (i + 1)) s)) in
    let d : drop 4 (drop (4 * i) s) ≡ drop (4 * (i + 1)) s = drop-drop 4 (4 * i) s ∙ ap (λ (j : ℕ). drop j s) f in
    let q2 : (sum + (number (part (4 * i) 4 s) + total (numbers 4 (n - (i + 1)) (drop 4 (drop (4 * i) s))))) % 2 ^ 32 ≡ t = rw e at q in
    let q3 : (sum + (w + rest)) % 2 ^ 32 ≡ t = rw (ew, ← d) q2 in
    rw ey (step sum w rest ∙ q3)
  where
    step : (a b c : ℕ) → ((a + b) % 2 ^ 32 + c) % 2 ^ 32 ≡ (a + (b + c)) % 2 ^ 32
    step a b c = omega arith

pub sum_all : (s : List ℕ) (n i sum t : ℕ) → n ≤ i → sum < 2 ^ 32 → (sum + total (numbers 4 (n - i) (drop (4 * i) s))) % 2 ^ 32 ≡ t → sum ≡ t
unfolding numbers total
sum_all s n i sum t h b q =
    let e : n - i ≡ 0 = omega arith in
    let q2 : (sum + 0) % 2 ^ 32 ≡ t = rw e at q in
    omega arith

pub check_lt : (s : List ℕ) → check s < 256 ^ 4
unfolding check
check_lt s = mod-lt _ (lit< tt)

-- it reads the first 508 bytes
pub check_front : (u v : List ℕ) → length u ≡ 508 → check (u ++ v) ≡ check u
unfolding check
check_front u v e = rw (numbers_front 4 127 u v (omega arith))
