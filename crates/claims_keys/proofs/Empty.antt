-- Zero blocks are a store that obeys the rules: one of them is tested by computing, and all are alike.
use mathlib.Core.Path.{◌≡◌, refl, sym, ap, ap₂, ◌∙◌}
use mathlib.Core.Bool.{true, false}
use mathlib.Core.List.{List, ◌∷◌, ◌++◌, map}
use Prim.Native.Nat.{ℕ, zero, suc, ◌+◌, ◌*◌, ◌/◌}
use native.Mathlib.Omega.{arith}
use lib.ListN.{length, take, drop, replicate, length-replicate, replicate-append-replicate}
use lib.Seq.{take_at, drop_at}
use Rattle.words.specs.Bytes.{number, numbers}
use Rattle.fields.specs.Fields.{every, all_zero, total, check, check_holds}
use Rattle.fields.specs.Blocks.{cut, blocks}
use Rattle.key_store.specs.Layout.{rules, well_laid}
use Rattle.key_store.specs.Store.{is_empty, present, any, once, well_kept}
use Rattle.key_store.specs.Calls.{store_number}
use Rattle.claims_keys.proofs.Putting.{keeps}
use Rattle.claims_keys.proofs.Accepting.{storable}

abbrev zero_block : List ℕ
zero_block = replicate 512 0

zero_laid : well_laid zero_block ≡ true
unfolding rules every all_zero check_holds check total numbers number
zero_laid = refl

cut_zeros : (n : ℕ) → cut n (replicate (512 * n) 0) ≡ replicate n zero_block
unfolding cut
cut_zeros zero = refl
cut_zeros (suc n) =
    let e : 512 * suc n ≡ 512 + 512 * n = omega arith in
    let f : replicate (512 * suc n) 0 ≡ zero_block ++ replicate (512 * n) 0 =
    ap (λ (k : ℕ). replicate {A = ℕ} k 0) e ∙ sym (replicate-append-replicate {A = ℕ} 512 (512 * n) 0) in
    ap₂ (λ (b r : List ℕ). b ∷ cut n r)
    (ap (take 512) f ∙ take_at zero_block (replicate (512 * n) 0) 512 refl)
    (ap (drop 512) f ∙ drop_at zero_block (replicate (512 * n) 0) 512 refl)
    ∙ ap (λ (bs : List (List ℕ)). zero_block ∷ bs) (cut_zeros n)

all_laid : (n : ℕ) → every (map well_laid (replicate n zero_block)) ≡ true
unfolding every
all_laid zero = refl
all_laid (suc n) = rw zero_laid (all_laid n)

none_twice : (n : ℕ) → once (replicate n zero_block) ≡ true
unfolding once
none_twice zero = refl
none_twice (suc n) = none_twice n

zero_blocks : (n : ℕ) → blocks (replicate (512 * n) 0) ≡ replicate n zero_block
unfolding blocks
zero_blocks n =
    let l : length (replicate {A = ℕ} (512 * n) 0) ≡ 512 * n = length-replicate {A = ℕ} (512 * n) 0 in
    let q : length (replicate {A = ℕ} (512 * n) 0) / 512 ≡ n = omega arith in
    ap (λ (k : ℕ). cut k (replicate (512 * n) 0)) q ∙ cut_zeros n

pub empty_kept : (n : ℕ) → well_kept (replicate (512 * n) 0) ≡ true
empty_kept n =
    let l : length (replicate {A = ℕ} (512 * n) 0) ≡ 512 * n = length-replicate {A = ℕ} (512 * n) 0 in
    keeps (replicate (512 * n) 0)
    (record {
      blocks_only = omega arith;
      laid = ap (λ (x : List (List ℕ)). every (map well_laid x)) (zero_blocks n) ∙ all_laid n;
      no_twice = ap once (zero_blocks n) ∙ none_twice n;
    })

nobody : (iv : List ℕ) (n : ℕ) → any (present iv) (replicate n zero_block) ≡ false
unfolding any
nobody iv zero = refl
nobody iv (suc n) = nobody iv n

some_empty : (n : ℕ) → any is_empty (replicate (suc n) zero_block) ≡ true
unfolding any
some_empty n = refl

pub first_key : (n : ℕ) (key iv k : List ℕ) → length key ≡ 32 → length iv ≡ 16 → length k ≡ 32 → store_number key iv k (replicate (512 * suc n) 0) ≡ 0
first_key n key iv k a b c =
    storable key iv k (replicate (512 * suc n) 0)
    (record {
      key_long = a;
      stay_key_long = c;
      iv_long = b;
      well = empty_kept (suc n);
      absent = ap (any (present iv)) (zero_blocks (suc n)) ∙ nobody iv (suc n);
      room = ap (any is_empty) (zero_blocks (suc n)) ∙ some_empty n;
    })
