-- The inverse S-box as a loop makes it from the S-box. After i turns each byte below i stands at the place that its entry names: no two bytes have
-- one entry, so that no turn writes over another. After 256 turns every place is written, since each byte is the entry of one.
use mathlib.Core.Path.{◌≡◌, sym, ap, ◌∙◌}
use mathlib.Core.List.{List}
use Prim.Native.Nat.{ℕ, ◌+◌, ◌≤◌, ◌<◌}
use native.Mathlib.Omega.{arith}
use borrow.Author.Count.{below_none, below_more}
use lib.ListN.{length, get_or, set, length-set}
use lib.Seq.{get_or-set_same, get_or-set_other}
use Rattle.aes.specs.Field.{sub}
use Rattle.aes.specs.Unround.{unsub}
use Rattle.aes.specs.Tables.{Holds}
use Rattle.aes.proofs.Boxes.{sub_lt, unsub_lt, unsub_sub, sub_unsub}

-- no two bytes have one entry
sub_one : (a b : ℕ) → a < 256 → b < 256 → sub a ≡ sub b → a ≡ b
sub_one a b ha hb e = sym (unsub_sub a ha) ∙ ap unsub e ∙ unsub_sub b hb

-- the table after i turns
pub record Inverts (i : ℕ) (r : List ℕ) : Type 0 where
  pub long : length r ≡ 256
  pub place : (j : ℕ) → j < i → get_or r (sub j) 0 ≡ j

pub inverts_none : (r : List ℕ) → length r ≡ 256 → Inverts 0 r
inverts_none r e = record { long = e; place = below_none _ }

pub inverts_more : (i x : ℕ) (r : List ℕ) → i < 256 → x ≡ sub i → Inverts i r → Inverts (i + 1) (set r x i)
inverts_more i x r h e v =
    rw e
    (record {
      long = length-set r (sub i) i ∙ v.long;
      place =
          below_more _ i
          (λ j l. get_or-set_other r (sub i) (sub j) i 0 (λ q. omega (arith, sub_one j i (omega arith) h q)) ∙ v.place j l)
          (get_or-set_same r (sub i) i 0 (omega (arith, sub_lt i)));
    })

pub inverts_all : (i : ℕ) (r : List ℕ) → 256 ≤ i → Inverts i r → Holds unsub r
inverts_all i r h v =
    record { rule = λ b l. ap (λ (x : ℕ). get_or r x 0) (sym (sub_unsub b l)) ∙ v.place (unsub b) (omega (arith, unsub_lt b)) }
