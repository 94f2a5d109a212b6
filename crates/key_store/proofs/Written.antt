-- What is fine to write is read back from its block as it was: each field stands at its place. Every layout rule holds of the block; that of an empty one
-- since there is only one such block, and it is computed.
use mathlib.Core.Path.{◌≡◌, refl, ap, ap₂, ◌∙◌}
use mathlib.Core.Bool.{Bool, true, false, not, ◌||◌}
use mathlib.Core.List.{List, [], ◌∷◌, ◌++◌, append_assoc, append-nil}
use Prim.Native.Nat.{ℕ}
use native.Mathlib.Omega.{arith}
use lib.Dec.{eqb}
use borrow.Author.Tests.{eq-eqb, le-leb, eqb-true}
use lib.ListN.{length, get_or, replicate, length-append, length-replicate}
use Rattle.words.specs.Bytes.{little, number, numbers, part, joined, zeros}
use Rattle.words.proofs.Parts.{At, down, here, part_more}
use Rattle.fields.specs.Fields.{all_zero, total, check, checked, check_holds}
use Rattle.fields.proofs.Checked.{checked_long, check_written}
use Rattle.fields.proofs.Zeros.{zeros_all_zero}
use Rattle.key_store.specs.Layout.{empty, erased, Entry, body, block_of, read, rules, well_laid}
use Rattle.key_store.specs.Laws.{Fine}
use Rattle.key_store.proofs.Obeying.{seven}

regroup : (f0 f1 f2 f3 f4 f5 f6 : List ℕ) → f0 ++ f1 ++ f2 ++ f3 ++ f4 ++ f5 ++ f6 ≡ joined (f0 ∷ f1 ∷ f2 ∷ f3 ∷ f4 ∷ f5 ∷ f6 ∷ [])
regroup f0 f1 f2 f3 f4 f5 f6 = simp (append_assoc, append-nil)

zeros_long : (n : ℕ) → length (replicate {A = ℕ} n 0) ≡ n
zeros_long n = length-replicate {A = ℕ} n 0

-- the one empty block
nothing : Entry
nothing = record { mark = 0; iv = zeros; sealed = replicate 32 0; tag = zeros }

nothing_zero : all_zero (block_of nothing) ≡ true
unfolding block_of body nothing checked check total numbers number little all_zero
nothing_zero = refl

module _ (e : Entry) (f : Fine e) where
  body_long : length (body e) ≡ 508
  unfolding body
  body_long = simp (length-append, length-replicate) (omega (arith, f.iv_long, f.sealed_long, f.tag_long))

  block_long : length (block_of e) ≡ 512
  unfolding block_of
  block_long = checked_long (body e) body_long

  at0 : At (block_of e) 0
      ((e.mark ∷ []) ∷ replicate 15 0 ∷ e.iv ∷ e.sealed ∷ e.tag ∷ replicate 428 0 ∷ little 4 (check (body e)) ∷ [])
  unfolding block_of checked body
  at0 =
      record {
        is = regroup (e.mark ∷ []) (replicate 15 0) e.iv e.sealed e.tag (replicate 428 0) (little 4 (check (body e)));
      }

  -- what stands where
  record Places : Type 0 where
    mark : get_or (block_of e) 0 0 ≡ e.mark
    in_1 : part 1 15 (block_of e) ≡ replicate 15 0
    in_16 : part 16 16 (block_of e) ≡ e.iv
    in_32 : part 32 32 (block_of e) ≡ e.sealed
    in_64 : part 64 16 (block_of e) ≡ e.tag
    in_80 : part 80 428 (block_of e) ≡ replicate 428 0

  places : Places
  places =
      let d1 = down at0 1 refl in
      let d16 = down d1 15 (zeros_long 15) in
      let d32 = down d16 16 f.iv_long in
      let d64 = down d32 32 f.sealed_long in
      let d80 = down d64 16 f.tag_long in
      record {
        mark = ap (λ (l : List ℕ). get_or l 0 0) at0.is;
        in_1 = here d1 15 (zeros_long 15);
        in_16 = here d16 16 f.iv_long;
        in_32 = here d32 32 f.sealed_long;
        in_64 = here d64 16 f.tag_long;
        in_80 = here d80 428 (zeros_long 428);
      }

  pub read_block : read (block_of e) ≡ e
  unfolding read
  read_block = λ i. record { mark = places.mark i; iv = places.in_16 i; sealed = places.in_32 i; tag = places.in_64 i }

  check_block : check_holds (block_of e) ≡ true
  unfolding block_of
  check_block = check_written (body e) body_long

  empty_rule : (not (eqb e.mark empty) || all_zero (block_of e)) ≡ true
  unfolding nothing
  empty_rule = go (eqb e.mark empty) refl
    where
      go : (b : Bool) → eqb e.mark empty ≡ b → (not b || all_zero (block_of e)) ≡ true
      go true q =
          let m : e.mark ≡ 0 = eqb-true e.mark 0 q in
          let n : ¬ (e.mark ≡ 1) = λ p. omega arith in
          let same : e ≡ nothing = λ i. record { mark = m i; iv = f.no_iv m i; sealed = f.no_sealed n i; tag = f.no_tag n i } in
          ap (λ (x : Entry). all_zero (block_of x)) same ∙ nothing_zero
      go false q = refl

  erased_rule : (not (eqb e.mark erased) || all_zero (part 32 48 (block_of e))) ≡ true
  unfolding all_zero
  erased_rule = go (eqb e.mark erased) refl
    where
      go : (b : Bool) → eqb e.mark erased ≡ b → (not b || all_zero (part 32 48 (block_of e))) ≡ true
      go true q =
          let m : e.mark ≡ 2 = eqb-true e.mark 2 q in
          let n : ¬ (e.mark ≡ 1) = λ p. omega arith in
          ap all_zero (part_more (block_of e) 32 32 16 ∙ ap₂ (λ (x y : List ℕ). x ++ y) (places.in_32 ∙ f.no_sealed n) (places.in_64 ∙ f.no_tag n))
      go false q = refl

  pub block_laid : well_laid (block_of e) ≡ true
  unfolding rules
  block_laid =
      seven
      (eq-eqb _ _ block_long)
      (rw places.mark (le-leb _ _ f.mark_is))
      (rw places.mark empty_rule)
      (rw places.mark erased_rule)
      (rw places.in_1 (zeros_all_zero 15))
      (rw places.in_80 (zeros_all_zero 428))
      check_block
