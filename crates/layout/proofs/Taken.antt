-- Bytes that obey the layout rules are the block of what is read from them: field by field they are what `body` writes, and the check is right.
-- And what is read from them is fine to keep.
use mathlib.Core.Path.{◌≡◌, refl, sym}
use mathlib.Core.Bool.{true}
use mathlib.Core.List.{List, [], ◌∷◌}
use Prim.Native.Nat.{ℕ, ◌+◌, ◌%◌, ◌≤◌}
use lib.Dec.{lit<, lit≤, eqb}
use borrow.Author.Tests.{eq-eqb, eqb-true, leb-true}
use lib.ListN.{length, take, get_or, replicate}
use lib.Seq.{take-suc}
use Rattle.scope.specs.Limits.{most_data, most_text}
use Rattle.words.specs.Bytes.{little, number, Row, part}
use Rattle.words.proofs.Tests.{or_right}
use Rattle.words.proofs.Rows.{Below}
use Rattle.words.proofs.Bytes.{little_number}
use Rattle.words.proofs.Parts.{part_row, grow}
use Rattle.fields.specs.Fields.{all_zero}
use Rattle.fields.proofs.Checked.{check_taken}
use Rattle.fields.proofs.Zeros.{all_zero_zeros, all_zero_behind}
use Rattle.layout.specs.Block.{body, block_of, read}
use Rattle.layout.specs.Rules.{phase_length, rules, well_laid}
use Rattle.layout.specs.Laws.{Fine}
use Rattle.layout.proofs.RegisterBytes.{bytes_back, at_good}
use Rattle.layout.proofs.Obeying.{rule, laid_long}

module _ (s : List ℕ) (h : Below 256 s) (w : well_laid s ≡ true) where
  long : length s ≡ 512
  long = laid_long s w

  row : (at k : ℕ) → at + k ≤ 512 → Row k 256 (part at k s)
  row at k q = part_row 256 512 (lit< tt) (record { long = long; below = h }) at k q

  word : (at k : ℕ) → at + k ≤ 512 → little k (number (part at k s)) ≡ part at k s
  word at k q = little_number k (part at k s) (row at k q)

  zeros : (at k : ℕ) → at + k ≤ 512 → all_zero (part at k s) ≡ true → replicate k 0 ≡ part at k s
  zeros at k q e = all_zero_zeros k (part at k s) (row at k q).long e

  first : (get_or s 0 0 ∷ []) ≡ take 1 s
  first = sym (take-suc s 0 0 (rw long (lit< tt)))

  body_front : body (read s) ≡ take 508 s
  unfolding body read rules
  body_front =
      let g4 = grow s 1 3 first (zeros 1 3 (lit≤ tt) (rule s 6 w)) in
      let g8 = grow s 4 4 g4 (word 4 4 (lit≤ tt)) in
      let g12 = grow s 8 4 g8 (word 8 4 (lit≤ tt)) in
      let g16 = grow s 12 4 g12 (zeros 12 4 (lit≤ tt) (rule s 7 w)) in
      let g128 = grow s 16 112 g16 (bytes_back (part 16 112 s) (row 16 112 (lit≤ tt))) in
      let g144 = grow s 128 16 {f = part 128 16 s} g128 refl in
      let g160 = grow s 144 16 {f = part 144 16 s} g144 refl in
      grow s 160 348 g160 (zeros 160 348 (lit≤ tt) (rule s 8 w))

  pub block_read : block_of (read s) ≡ s
  unfolding block_of rules
  block_read = check_taken s (record { long = long; below = h }) (rule s 9 w) body_front

  pub read_fine : Fine (read s)
  unfolding rules read
  read_fine =
      record {
        phase_is = leb-true (get_or s 0 0) 1 (rule s 1 w);
        ad_fits = leb-true (number (part 4 4 s)) most_data (rule s 2 w);
        text_fits = leb-true (number (part 8 4 s)) most_text (rule s 3 w);
        text_none = λ e. eqb-true (number (part 8 4 s)) 0 (or_right (eqb (get_or s 0 0) 0) (eq-eqb (get_or s 0 0) 0 e) (rule s 4 w));
        registers_good = at_good (part 16 112 s) (row 16 112 (lit≤ tt));
        hash_block = row 128 16 (lit≤ tt);
        pending_block = row 144 16 (lit≤ tt);
        zeros_behind = all_zero_behind (phase_length (get_or s 0 0) (number (part 4 4 s)) (number (part 8 4 s)) % 16) (part 144 16 s) (rule s 5 w);
      }
