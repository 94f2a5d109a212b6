-- The table is filled from the left. A number is moved one bit to the left while V is multiplied by x, and their product stays: so with p
-- places filled, the multiples of V by the leftmost four bits are those of H by the four bits at place p.
use mathlib.Core.Path.{◌≡◌, refl, sym, ap, ap₂, subst, ◌∙◌}
use mathlib.Core.List.{List, [], ◌∷◌, ◌++◌}
use mathlib.Core.Logic.{◌⊎◌, inl, inr}
use Prim.Native.Nat.{ℕ, suc, ◌+◌, ◌-◌, ◌*◌, ◌^◌, ◌<◌, ◌≤◌}
use native.Mathlib.Omega.{arith}
use native.Mathlib.Nat.{mul-one, mul_assoc, pow-suc, pow-succ', one-le-pow, mul-lt-mul_of_pos_right, lt_of_lt_of_le, eq-or-lt_of_le}
use native.Mathlib.Numerals.{add-one}
use lib.Dec.{lit<, lit≤}
use lib.ListN.{length, get_or, set, take, drop, length-take, length-append, get_or-append}
use lib.Pow.{pow-add, shl_lt}
use lib.Seq.{sets, sets-eq, get_or-append-add, get_or-set_other, length-sets}
use Rattle.ghash.specs.Field.{times_x, product}
use Rattle.ghash.specs.Hash.{big}
use Rattle.ghash.specs.Machine.{entry, Table}
use Rattle.ghash.specs.Inner.{entries, multiples}
use Rattle.ghash.proofs.Product.{product_shift}
use Rattle.ghash.proofs.Places.{entries_long, entries_at, multiples_at, multiples_long}

-- ---- a run of stores, where it is and before it

sets_in : (l s : List ℕ) (i k : ℕ) → i + length s ≤ length l → k < length s → get_or (sets l i s) (i + k) 0 ≡ get_or s k 0
sets_in l s i k h hk =
    let n : length (take i l) ≡ i = simp length-take (omega arith) in
    ap (λ (m : List ℕ). get_or m (i + k) 0) (sets-eq s l i h)
    ∙ get_or-append (take i l ++ s) (drop (i + length s) l) 0 (i + k) (simp length-append (omega arith))
    ∙ ap (λ (j : ℕ). get_or (take i l ++ s) (j + k) 0) (sym n) ∙ get_or-append-add (take i l) s k 0

sets_before : (l s : List ℕ) (i j : ℕ) → j < i → get_or (sets l i s) j 0 ≡ get_or l j 0
sets_before l [] i j h = refl
sets_before l (x ∷ s) i j h = sets_before (set l i x) s (suc i) j (omega arith) ∙ get_or-set_other l i j x 0 (λ e. omega arith)

-- ---- moved to the left by four places

shift_four : (x v : ℕ) → x < 2 ^ 124 → product x v ≡ product (x * 16) (times_x (times_x (times_x (times_x v))))
shift_four x v h =
    product_shift x v (lt_of_lt_of_le h (lit≤ tt))
    ∙ product_shift (x * 2) (times_x v) (lt_of_lt_of_le (shl_lt 124 1 h) (lit≤ tt))
    ∙ product_shift (x * 2 * 2) (times_x (times_x v)) (lt_of_lt_of_le (shl_lt 125 1 (shl_lt 124 1 h)) (lit≤ tt))
    ∙ product_shift (x * 2 * 2 * 2) (times_x (times_x (times_x v))) (shl_lt 126 1 (shl_lt 125 1 (shl_lt 124 1 h)))
    ∙ ap (λ (y : ℕ). product y (times_x (times_x (times_x (times_x v))))) (sixteen x)
  where
    sixteen : (x : ℕ) → x * 2 * 2 * 2 * 2 ≡ x * 16
    sixteen x = omega arith

-- ---- the loop

pub record Filled (h v p : ℕ) (t : List ℕ) : Type 0 where
  pub long : length (entries t) ≡ 512
  pub moved : (x : ℕ) → x < 16 ^ (32 - p) → product x h ≡ product (x * 16 ^ p) v
  pub done : (q k : ℕ) → q < p → k < 16 → get_or (entries t) (q * 16 + k) 0 ≡ product (k * 16 ^ (31 - q)) h

pub filled_none : (h : ℕ) (t : List ℕ) → length t ≡ 1024 → Filled h h 0 t
filled_none h t e =
    record {
      long = entries_long 512 t e;
      moved = λ x l. ap (λ (y : ℕ). product y h) (sym (mul-one x));
      done = λ q k a l. absurd (omega arith);
    }

module _ (h v v' p : ℕ) (t t' : List ℕ) (few_next : p < 32) (f : Filled h v p t) (ev : v' ≡ times_x (times_x (times_x (times_x v))))
    (et : entries t' ≡ sets (entries t) (p * 16) (multiples v)) where
  -- 16 ^ p and what is to its left
  whole : 16 ^ (31 - p) * 16 ^ p ≡ 2 ^ 124
  whole = sym (pow-add 16 (31 - p) p) ∙ ap (λ (e : ℕ). 16 ^ e) (let e : 31 - p + p ≡ 31 = omega arith in e)

  wider : 16 ^ (32 - p) ≡ 16 * 16 ^ (31 - p)
  wider = ap (λ (e : ℕ). 16 ^ e) (let e : 32 - p ≡ suc (31 - p) = omega arith in e) ∙ pow-succ' 16 (31 - p)

  moved_next : (x : ℕ) → x < 16 ^ (32 - (p + 1)) → product x h ≡ product (x * 16 ^ (p + 1)) v'
  moved_next x l =
      let d : 32 - (p + 1) ≡ 31 - p = omega arith in
      let less : x < 16 ^ (31 - p) = subst (λ (e : ℕ). x < 16 ^ e) d l in
      let wide : x < 16 ^ (32 - p) = rw wider (omega arith) in
      let small : x * 16 ^ p < 2 ^ 124 = subst (λ (n : ℕ). x * 16 ^ p < n) whole (mul-lt-mul_of_pos_right less (one-le-pow p 16 (lit< tt))) in
      let up : 16 ^ p * 16 ≡ 16 ^ (p + 1) = sym (pow-suc 16 p) ∙ ap (λ (n : ℕ). 16 ^ n) (sym (add-one p)) in
      f.moved x wide ∙ shift_four (x * 16 ^ p) v small ∙ ap₂ product (mul_assoc x (16 ^ p) 16 ∙ ap (λ (n : ℕ). x * n) up) (sym ev)

  done_here : (k : ℕ) → k < 16 → get_or (entries t') (p * 16 + k) 0 ≡ product (k * 16 ^ (31 - p)) h
  done_here k l =
      let m : length (multiples v) ≡ 16 = multiples_long v in
      let wide : k * 16 ^ (31 - p) < 16 ^ (32 - p) = rw wider (mul-lt-mul_of_pos_right l (one-le-pow (31 - p) 16 (lit< tt))) in
      ap (λ (s : List ℕ). get_or s (p * 16 + k) 0) et ∙ sets_in (entries t) (multiples v) (p * 16) k (omega (arith, f.long)) (omega arith)
      ∙ multiples_at v k l ∙ ap (λ (n : ℕ). product (k * n) v) (sym whole) ∙ ap (λ (n : ℕ). product n v) (sym (mul_assoc k (16 ^ (31 - p)) (16 ^ p)))
      ∙ sym (f.moved (k * 16 ^ (31 - p)) wide)

  done_next : (q k : ℕ) → q < p + 1 → k < 16 → get_or (entries t') (q * 16 + k) 0 ≡ product (k * 16 ^ (31 - q)) h
  done_next q k a l = go (eq-or-lt_of_le (let b : q ≤ p = omega arith in b))
    where
      go : (q ≡ p) ⊎ (q < p) → get_or (entries t') (q * 16 + k) 0 ≡ product (k * 16 ^ (31 - q)) h
      go (inl e) = subst (λ (n : ℕ). get_or (entries t') (n * 16 + k) 0 ≡ product (k * 16 ^ (31 - n)) h) (sym e) (done_here k l)
      go (inr e) = ap (λ (s : List ℕ). get_or s (q * 16 + k) 0) et ∙ sets_before (entries t) (multiples v) (p * 16) (q * 16 + k) (omega arith) ∙ f.done q k e l

  pub filled_more : Filled h v' (p + 1) t'
  filled_more =
      record {
        long = ap length et ∙ length-sets (entries t) (p * 16) (multiples v) ∙ f.long;
        moved = moved_next;
        done = done_next;
      }

pub filled_all : (h : List ℕ) (v : ℕ) (t : List ℕ) → Filled (big h) v 32 t → Table h t
unfolding Table
filled_all h v t f p k hp hk =
    let e : p * 32 + k * 2 ≡ (p * 16 + k) * 2 = omega arith in
    ap (entry t) e ∙ sym (entries_at t (p * 16 + k) (omega (arith, f.long))) ∙ f.done p k hp hk
