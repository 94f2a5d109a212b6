-- Bytes that obey the layout rules are the block of what is read from them: field by field they are what `body` writes, and the check is right.
-- And what is read from them is fine to write.
use mathlib.Core.Path.{◌≡◌, refl, sym, ap, ◌∙◌}
use mathlib.Core.Bool.{Bool, true, false}
use mathlib.Core.List.{List, [], ◌∷◌}
use Prim.Native.Nat.{ℕ, ◌+◌, ◌≤◌}
use native.Mathlib.Omega.{arith}
use lib.Dec.{lit<, lit≤, eqb}
use borrow.Author.Tests.{eq-eqb, eqb-true, eqb-false, leb-true}
use lib.ListN.{length, take, replicate}
use lib.Seq.{take-suc}
use Rattle.words.specs.Bytes.{part}
use Rattle.words.proofs.Tests.{or_right}
use Rattle.words.proofs.Rows.{Below}
use Rattle.words.proofs.Parts.{part_long, part_part, grow}
use Rattle.fields.specs.Fields.{all_zero}
use Rattle.fields.proofs.Checked.{check_taken}
use Rattle.fields.proofs.Zeros.{all_zero_zeros}
use Rattle.key_store.specs.Layout.{empty, erased, mark_of, body, block_of, read, rules, well_laid}
use Rattle.key_store.specs.Laws.{Fine}
use Rattle.key_store.proofs.Obeying.{rule, laid_long}

module _ (b : List ℕ) (h : Below 256 b) (w : well_laid b ≡ true) where
  long : length b ≡ 512
  long = laid_long b w

  all_zeros : (at k : ℕ) → at + k ≤ 512 → all_zero (part at k b) ≡ true → replicate k 0 ≡ part at k b
  all_zeros at k q e = all_zero_zeros k (part at k b) (part_long b at k (omega (arith, long))) e

  body_front : body (read b) ≡ take 508 b
  unfolding body read rules
  body_front =
      let g1 : (mark_of b ∷ []) ≡ take 1 b = sym (take-suc b 0 0 (rw long (lit< tt))) in
      let g16 = grow b 1 15 g1 (all_zeros 1 15 (lit≤ tt) (rule b 4 w)) in
      let g32 = grow b 16 16 {f = part 16 16 b} g16 refl in
      let g64 = grow b 32 32 {f = part 32 32 b} g32 refl in
      let g80 = grow b 64 16 {f = part 64 16 b} g64 refl in
      grow b 80 428 g80 (all_zeros 80 428 (lit≤ tt) (rule b 5 w))

  pub block_read : block_of (read b) ≡ b
  unfolding block_of rules
  block_read = check_taken b (record { long = long; below = h }) (rule b 6 w) body_front

  -- an empty block
  none : mark_of b ≡ empty → replicate 512 0 ≡ b
  unfolding rules
  none m = all_zero_zeros 512 b long (or_right (eqb (mark_of b) empty) (eq-eqb (mark_of b) empty m) (rule b 2 w))

  -- key and tag of an erased one
  gone : mark_of b ≡ erased → replicate 48 0 ≡ part 32 48 b
  unfolding rules
  gone m = all_zeros 32 48 (lit≤ tt) (or_right (eqb (mark_of b) erased) (eq-eqb (mark_of b) erased m) (rule b 3 w))

  -- and so of every block that is not held
  unheld : ¬ (mark_of b ≡ 1) → replicate 48 0 ≡ part 32 48 b
  unfolding rules
  unheld n = go (eqb (mark_of b) empty) refl
    where
      go : (t : Bool) → eqb (mark_of b) empty ≡ t → replicate 48 0 ≡ part 32 48 b
      go true q = ap (part 32 48) (none (eqb-true (mark_of b) empty q))
      go false q = gone (omega (arith, leb-true (mark_of b) 2 (rule b 1 w), eqb-false (mark_of b) empty q, n))

  pub read_fine : Fine (read b)
  unfolding rules read
  read_fine =
      record {
        mark_is = leb-true (mark_of b) 2 (rule b 1 w);
        iv_long = part_long b 16 16 (omega (arith, long));
        sealed_long = part_long b 32 32 (omega (arith, long));
        tag_long = part_long b 64 16 (omega (arith, long));
        no_iv = λ m. sym (ap (part 16 16) (none m));
        no_sealed = λ n. sym (ap (part 0 32) (unheld n) ∙ part_part b 32 48 0 32 (lit≤ tt));
        no_tag = λ n. sym (ap (part 32 16) (unheld n) ∙ part_part b 32 48 32 16 (lit≤ tt));
      }
