-- A list that is written part after part, over zeros: what has been written stands in front, and zeros behind it.
use Rattle.std.proofs.Common.{◌≡◌, ℕ, zero, suc, ◌+◌, ◌-◌, ◌≤◌, List, [], ◌++◌, length, drop, replicate, refl, ap, ◌∙◌, append_assoc, arith, length-append, take_at}
use lib.ListN.{length-replicate, replicate-append-replicate}
use lib.Seq.{sets, sets-eq, drop-append-add}

dropped : (j n : ℕ) → drop j (replicate {A = ℕ} (j + n) 0) ≡ replicate {A = ℕ} n 0
dropped zero n = ap (λ (m : ℕ). replicate {A = ℕ} m 0) (let e : 0 + n ≡ n = omega arith in e)
dropped (suc j) n = ap (λ (m : ℕ). drop (suc j) (replicate {A = ℕ} m 0)) (let e : suc j + n ≡ suc (j + n) = omega arith in e) ∙ dropped j n

written : (pre v : List ℕ) (at m n : ℕ) → length pre ≡ at → m ≡ length v + n → sets (pre ++ replicate m 0) at v ≡ pre ++ v ++ replicate n 0
written pre v at m n e f =
    rw f
    (sets-eq v (pre ++ replicate (length v + n) 0) at (omega (arith, length-append pre (replicate (length v + n) 0), length-replicate {A = ℕ} (length v + n) 0))
    ∙ rw (take_at pre (replicate (length v + n) 0) at e, ← e, drop-append-add pre (replicate (length v + n) 0) (length v), dropped (length v) n))

-- the first `at` of l's `all` elements are pre, and the others zero
pub record Front (all : ℕ) (pre : List ℕ) (at : ℕ) (l : List ℕ) : Type 0 where
  pub is : l ≡ pre ++ replicate (all - at) 0
  pub long : length pre ≡ at
  pub within : at ≤ all

pub front_none : (all : ℕ) → Front all [] 0 (replicate all 0)
front_none all = record { is = ap (λ (n : ℕ). replicate n 0) (let e : all ≡ all - 0 = omega arith in e); long = refl; within = omega arith }

module _ {all : ℕ} {pre : List ℕ} {at : ℕ} {l : List ℕ} (p : Front all pre at l) where
  -- a part more
  pub front_put : (v : List ℕ) (k : ℕ) (r : List ℕ) → length v ≡ k → at + k ≤ all → r ≡ sets l at v → Front all (pre ++ v) (at + k) r
  front_put v k r e h q =
      record {
        is = q ∙ ap (λ (x : List ℕ). sets x at v) p.is
            ∙ written pre v at (all - at) (all - (at + k)) p.long (omega (arith, p.within));
        long = length-append pre v ∙ rw (p.long, e) refl;
        within = h;
      }

  -- zeros, left as they are
  pub front_skip : (k : ℕ) → at + k ≤ all → Front all (pre ++ replicate k 0) (at + k) l
  front_skip k h =
      let e : all - at ≡ k + (all - (at + k)) = omega (arith, p.within) in
      record {
        is = p.is ∙ rw (append_assoc, replicate-append-replicate {A = ℕ} k (all - (at + k)) 0, e);
        long = length-append pre (replicate k 0) ∙ rw (p.long, length-replicate {A = ℕ} k 0) refl;
        within = h;
      }
