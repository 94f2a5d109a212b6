-- Runs of stores one behind the other, and the loops that write: what is left to write, written behind what stands there, makes the whole.
-- Copying, hex digits from bytes and bytes from hex digits are one loop at three functions.
use Rattle.std.proofs.Common.{◌≡◌, ℕ, suc, ◌+◌, ◌-◌, ◌/◌, ◌%◌, ◌<◌, ◌≤◌, List, [], ◌∷◌, ◌++◌, length, get_or, take, drop, set, sym, refl, ap, ◌∙◌, append_assoc, append-nil, add-one, arith, length-append, drop_of_length-le, length-take-le, drop-drop, take_at, take_all, drop_at}
use Rattle.std.proofs.lemmas.Slice.{put_mid-paste}
use borrow.Rule.Slice.PartMut.{put_mid}
use lib.Seq.{paste, sets, length-sets, sets-eq, slice, slice-cons, slice_empty, drop-length, take-set-le}
use Rattle.words.specs.Bytes.{little, part}
use Rattle.words.proofs.Rows.{sets_append}
use Rattle.words.proofs.Parts.{part_front}

-- ---- runs of stores

-- a second run behind the first
pub put_next : (l a b : List ℕ) (at next : ℕ) {l1 l2 : List ℕ} → next ≡ at + length a → l1 ≡ sets l at a → l2 ≡ sets l1 next b → l2 ≡ sets l at (a ++ b)
put_next l a b at next e p q =
    q ∙ ap (λ (x : List ℕ). sets x next b) p ∙ ap (λ (n : ℕ). sets (sets l at a) n b) e ∙ sym (sets_append l at a b)

-- a run at the front of a longer list
pub put_front : (out v : List ℕ) (n : ℕ) → length v ≡ n → n ≤ length out → sets out 0 v ≡ v ++ drop n out
put_front out v n e h = sets-eq v out 0 (omega arith) ∙ ap (λ (k : ℕ). v ++ drop k out) (let f : 0 + length v ≡ n = omega arith in f)

-- a list written over another of its length
pub put_whole : (l v : List ℕ) → length v ≡ length l → sets l 0 v ≡ v
put_whole l v e =
    put_front l v (length l) e (omega arith) ∙ ap (λ (r : List ℕ). v ++ r) (drop-length l) ∙ append-nil v

-- a part written over as a whole: as `copy_within` leaves it, and as a write to `s[a..e]` does
pub put_pasted : (l s : List ℕ) (at k : ℕ) → k ≤ length s → at + k ≤ length l → paste l at s k ≡ sets l at (take k s)
put_pasted l s at k h n =
    let e : length (take k s) ≡ k = length-take-le k s h in
    ap (λ (m : ℕ). take at l ++ take k s ++ drop (at + m) l) (sym e) ∙ sym (sets-eq (take k s) l at (omega arith))

pub put_part : (l : List ℕ) (at k : ℕ) {v w : List ℕ} → w ≡ v → k ≡ length v → at + k ≤ length l → put_mid at k l w ≡ sets l at v
put_part l at k {v} {w} e n h =
    put_mid-paste at k l w v k e refl n ∙ put_pasted l v at k (omega arith) h ∙ ap (sets l at) (take_all k v (omega arith))

-- what was written at the front of a list
pub front : (out vs : List ℕ) → length vs ≤ length out → take (length vs) (sets out 0 vs) ≡ vs
front out vs h = ap (take (length vs)) (sets-eq vs out 0 (omega arith)) ∙ take_at vs (drop (0 + length vs) out) (length vs) refl

-- ---- a part of a list, element by element

pub put_turn : (q s : List ℕ) (k i to : ℕ) → i < to → to ≤ length s → sets (set q k (get_or s i 0)) (k + 1) (slice (i + 1) to s) ≡ sets q k (slice i to s)
put_turn q s k i to h r = rw (add-one k, add-one i, slice-cons i to s 0 h r)

pub put_end : (q s : List ℕ) (k to : ℕ) → q ≡ sets q k (slice to to s)
put_end q s k to = rw (slice_empty to s)

-- ---- what was written, read again

take_sets : (n : ℕ) (l : List ℕ) (i : ℕ) (vs : List ℕ) → n ≤ i → take n (sets l i vs) ≡ take n l
take_sets n l i [] h = refl
take_sets n l i (v ∷ vs) h = take_sets n (set l i v) (suc i) vs (omega arith) ∙ take-set-le n l i v h

-- what is written further on does not change a part
pub read_before : (l : List ℕ) (at k i : ℕ) (vs : List ℕ) → at + k ≤ i → part at k (sets l i vs) ≡ part at k l
read_before l at k i vs h = sym (part_front (sets l i vs) at k) ∙ ap (drop at) (take_sets (at + k) l i vs h) ∙ part_front l at k

-- nor what is written before it
pub read_behind : (l : List ℕ) (at k i : ℕ) (vs : List ℕ) → i + length vs ≤ at → i + length vs ≤ length l → part at k (sets l i vs) ≡ part at k l
read_behind l at k i vs h n =
    let pre = length-take-le i l (omega arith) in
    let e : length (take i l ++ vs) ≡ i + length vs = length-append (take i l) vs ∙ ap (λ (m : ℕ). m + length vs) pre in
    let f : i + length vs + (at - (i + length vs)) ≡ at = omega arith in
    ap (part at k) (sets-eq vs l i n)
    ∙ ap (λ (m : ℕ). take k (drop m ((take i l ++ vs) ++ drop (i + length vs) l))) (sym f)
    ∙ ap (take k) (sym (drop-drop (at - (i + length vs)) (i + length vs) ((take i l ++ vs) ++ drop (i + length vs) l))
    ∙ ap (drop (at - (i + length vs))) (drop_at (take i l ++ vs) (drop (i + length vs) l) (i + length vs) e)
    ∙ drop-drop (at - (i + length vs)) (i + length vs) l
    ∙ ap (λ (m : ℕ). drop m l) f)

pub read_written : (l : List ℕ) (i k : ℕ) (vs : List ℕ) → length vs ≡ k → i + k ≤ length l → part i k (sets l i vs) ≡ vs
read_written l i k vs e h =
    let room : i + length vs ≤ length l = omega arith in
    ap (part i k) (sets-eq vs l i room ∙ append_assoc (take i l) vs (drop (i + length vs) l))
    ∙ ap (take k) (drop_at (take i l) (vs ++ drop (i + length vs) l) i (length-take-le i l (omega arith)))
    ∙ take_at vs (drop (i + length vs) l) k e

-- ---- a number, byte by byte

pub put_more : (k i at m : ℕ) (r t : List ℕ) → i < k → sets r (at + i) (little (k - i) m) ≡ t
    → sets (set r (at + i) (m % 256)) (at + (i + 1)) (little (k - (i + 1)) (m / 256)) ≡ t
unfolding little
put_more k i at m r t h q =
    let e : k - i ≡ suc (k - (i + 1)) = omega arith in
    let f : at + (i + 1) ≡ suc (at + i) = omega arith in
    rw f (rw e at q)

pub put_all : (k i at m : ℕ) (r t : List ℕ) → k ≤ i → sets r (at + i) (little (k - i) m) ≡ t → r ≡ t
unfolding little
put_all k i at m r t h q = let e : k - i ≡ 0 = omega arith in rw e at q

-- ---- what a function makes of a list, some bytes a turn

-- of src, everything from i on is left; it goes to the place `to`
pub record Written (f : List ℕ → List ℕ) (src out₀ : List ℕ) (at i to : ℕ) (out : List ℕ) : Type 0 where
  pub made : sets out to (f (drop i src)) ≡ sets out₀ at (f src)
  pub place : to + length (f (drop i src)) ≡ at + length (f src)
  pub long : length out ≡ length out₀

module _ (f : List ℕ → List ℕ) (src out₀ : List ℕ) (at : ℕ) where
  pub written_none : Written f src out₀ at 0 at out₀
  written_none = record { made = refl; place = refl; long = refl }

  -- a turn writes vs and goes on from j
  pub written_more : (i j to to' : ℕ) (out vs : List ℕ) → f (drop i src) ≡ vs ++ f (drop j src) → to' ≡ to + length vs → Written f src out₀ at i to out → Written f src out₀ at j to' (sets out to vs)
  written_more i j to to' out vs e p w =
      record {
        made = ap (λ (k : ℕ). sets (sets out to vs) k (f (drop j src))) p ∙ sym (sets_append out to vs (f (drop j src))) ∙ ap (sets out to) (sym e) ∙ w.made;
        place = let l : length (f (drop i src)) ≡ length vs + length (f (drop j src)) = ap length e ∙ length-append vs (f (drop j src)) in omega (arith, w.place);
        long = length-sets out to vs ∙ w.long;
      }

  -- nothing is left
  pub written_all : (i to : ℕ) (out : List ℕ) → f [] ≡ [] → length src ≤ i → Written f src out₀ at i to out → (out ≡ sets out₀ at (f src)) × (to ≡ at + length (f src))
  written_all i to out z h w =
      let e : f (drop i src) ≡ [] = ap f (drop_of_length-le src h) ∙ z in
      let l : length (f (drop i src)) ≡ 0 = ap length e in
      (ap (sets out to) (sym e) ∙ w.made, omega (arith, w.place))
