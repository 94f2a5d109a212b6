-- Erasing leaves nothing of a key: the block that holds the number is the one that is replaced, by a block that the number alone determines, and the bytes
-- around it are those of the other store.
use mathlib.Core.Path.{◌≡◌, refl, sym, ap, ap₂, ◌∙◌}
use mathlib.Core.Bool.{Bool, true, false, ◌&&◌, true≢false}
use mathlib.Core.List.{List, [], ◌∷◌, ◌++◌}
use Prim.Native.Nat.{ℕ, ◌+◌, ◌*◌, ◌<◌}
use native.Mathlib.Omega.{arith}
use borrow.Author.Tests.{leb-true, leb-false}
use lib.Dec.{eqb, leb, lit<, lit≤}
use lib.ListN.{length, get_or, take, drop, drop_of_length-le}
use lib.Seq.{take-take}
use Rattle.words.specs.Bytes.{part, same}
use Rattle.words.proofs.Parts.{part_front, part_at, part_part, part_long}
use Rattle.fields.specs.Blocks.{blocks, replaced}
use Rattle.fields.proofs.Blocks.{cut_long, blocks_before, blocks_split}
use Rattle.key_store.specs.Layout.{held, erased_block}
use Rattle.key_store.specs.Store.{holds, any, first, once, well_kept}
use Rattle.key_store.specs.Calls.{erase_number, erase_after}
use Rattle.claims_keys.specs.Claims.{OneKeyApart}
use Rattle.claims_keys.proofs.First.{any_within}
use Rattle.claims_keys.proofs.Blocks.{present_iv, holds_present}
use Rattle.claims_keys.proofs.Once.{first_at}
use Rattle.claims_keys.proofs.Putting.{kept}
use Rattle.claims_keys.proofs.Accepting.{erasable, gone}

-- whether a block holds a number is a matter of its first 32 bytes
by_front : (iv s : List ℕ) (at : ℕ) → holds iv (part at 512 s) ≡ holds iv (part at 32 s)
by_front iv s at =
    let m : get_or (part at 512 s) 0 0 ≡ get_or (part at 32 s) 0 0 = sym (part_at s at 512 0 (lit< tt)) ∙ part_at s at 32 0 (lit< tt) in
    let v : part 16 16 (part at 512 s) ≡ part 16 16 (part at 32 s) = part_part s at 512 16 16 (lit≤ tt) ∙ sym (part_part s at 32 16 16 (lit≤ tt)) in
    ap₂ (λ (x : ℕ) (y : List ℕ). eqb x held && same y iv) m v

-- block i of a store holds a number
module _ (iv s : List ℕ) (i : ℕ) (w : well_kept s ≡ true) (h : holds iv (part (512 * i) 512 s) ≡ true) where
  abbrev block : List ℕ
  block = part (512 * i) 512 s

  -- so that there is one
  inside : 512 * i < length s
  inside = go (leb (length s) (512 * i)) refl
    where
      go : (t : Bool) → leb (length s) (512 * i) ≡ t → 512 * i < length s
      go true e =
          let z : block ≡ [] = ap (take 512) (drop_of_length-le s {i = 512 * i} (leb-true (length s) (512 * i) e)) in
          absurd (true≢false (sym h ∙ ap (holds iv) z))
      go false e = leb-false (length s) (512 * i) e

  split : blocks s ≡ take i (blocks s) ++ block ∷ drop (i + 1) (blocks s)
  split = blocks_split s i (kept s w).blocks_only inside

  place : first (holds iv) (blocks s) ≡ i
  place =
      let us : List (List ℕ) = take i (blocks s) in
      let vs : List (List ℕ) = drop (i + 1) (blocks s) in
      ap (first (holds iv)) split
      ∙ first_at iv us block vs (ap once (sym split) ∙ (kept s w).no_twice) h
      ∙ ap length (blocks_before s i (kept s w).blocks_only inside) ∙ cut_long i s

  taken : erase_number iv s ≡ 0
  taken =
      let long : length block ≡ 512 = part_long s (512 * i) 512 (omega (arith, inside, (kept s w).blocks_only)) in
      erasable iv s
      (record {
        iv_long = ap length (sym (present_iv iv block (holds_present iv block h))) ∙ part_long block 16 16 (omega arith);
        well = w;
        there = ap (any (holds iv)) split ∙ any_within (holds iv) (take i (blocks s)) block (drop (i + 1) (blocks s)) h;
      })

  erased_there : erase_after iv s ≡ replaced i (erased_block iv) s
  erased_there = gone iv s taken ∙ ap (λ (n : ℕ). replaced n (erased_block iv) s) place

pub nothing_left : (iv s s' : List ℕ) (i : ℕ) → well_kept s ≡ true → well_kept s' ≡ true → OneKeyApart iv s s' i
    → (erase_number iv s ≡ 0) × ((erase_number iv s' ≡ 0) × (erase_after iv s ≡ erase_after iv s'))
unfolding replaced
nothing_left iv s s' i w w' a =
    let f : part (512 * i) 32 s ≡ part (512 * i) 32 s' =
    sym (part_front s (512 * i) 32) ∙ ap (drop (512 * i)) a.before ∙ part_front s' (512 * i) 32 in
    let h : holds iv (part (512 * i) 512 s') ≡ true =
    by_front iv s' (512 * i) ∙ ap (holds iv) (sym f) ∙ sym (by_front iv s (512 * i)) ∙ a.holder in
    let t : take (512 * i) s ≡ take (512 * i) s' =
    sym (take-take (512 * i) (512 * i + 32) s (omega arith)) ∙ ap (take (512 * i)) a.before
    ∙ take-take (512 * i) (512 * i + 32) s' (omega arith) in (
      taken iv s i w a.holder,
      (
        taken iv s' i w' h,
        erased_there iv s i w a.holder
            ∙ ap₂ (λ (x y : List ℕ). x ++ erased_block iv ++ y) t a.behind
            ∙ sym (erased_there iv s' i w' h),
      ),
    )
