-- What is fine to keep is read back from its block as it was: each field stands at its place, and its bytes determine it. Every layout rule
-- holds of the block.
use mathlib.Core.Path.{◌≡◌, refl, ap, ◌∙◌}
use mathlib.Core.Bool.{Bool, true, false, not, ◌||◌}
use mathlib.Core.List.{List, [], ◌∷◌, ◌++◌, append_assoc, append-nil}
use Prim.Native.Nat.{ℕ, zero, suc, ◌≤◌}
use native.Mathlib.Nat.{lt_of_le_of_lt}
use native.Mathlib.Omega.{arith}
use lib.Dec.{lit<, eqb}
use borrow.Author.Tests.{eq-eqb, le-leb, eqb-true}
use lib.ListN.{length, get_or, replicate, length-replicate}
use Rattle.words.specs.Bytes.{little, number, Row, part, joined}
use Rattle.words.proofs.Rows.{Below, zeros_row, row_append}
use Rattle.words.proofs.Bytes.{little_long, little_row, number_little}
use Rattle.words.proofs.Parts.{At, down, here}
use Rattle.fields.specs.Fields.{check, checked, check_holds}
use Rattle.fields.proofs.Checked.{check_written}
use Rattle.fields.proofs.Zeros.{zeros_all_zero, behind_all_zero}
use Rattle.layout.specs.Block.{Suspended, registers_bytes, registers_at, body, block_of, read}
use Rattle.layout.specs.Rules.{rules, well_laid}
use Rattle.layout.specs.Laws.{Fine}
use Rattle.layout.proofs.RegisterBytes.{good_row, registers_back}
use Rattle.layout.proofs.Obeying.{ten}

regroup : (f0 f1 f2 f3 f4 f5 f6 f7 f8 f9 : List ℕ)
    → f0 ++ f1 ++ f2 ++ f3 ++ f4 ++ f5 ++ f6 ++ f7 ++ f8 ++ f9 ≡ joined (f0 ∷ f1 ∷ f2 ∷ f3 ∷ f4 ∷ f5 ∷ f6 ∷ f7 ∷ f8 ∷ f9 ∷ [])
regroup f0 f1 f2 f3 f4 f5 f6 f7 f8 f9 = simp (append_assoc, append-nil)

zeros_long : (n : ℕ) → length (replicate {A = ℕ} n 0) ≡ n
zeros_long n = length-replicate {A = ℕ} n 0

one_row : (b : ℕ) → b ≤ 1 → Row 1 256 (b ∷ [])
one_row b h = record { long = refl; below = small }
  where
    small : Below 256 (b ∷ [])
    small zero = omega arith
    small (suc i) = lit< tt

module _ (k : Suspended) (f : Fine k) where
  body_row : Row 508 256 (body k)
  unfolding body
  body_row =
      let r4 = row_append 256 1 3 (one_row k.phase f.phase_is) (zeros_row 3 256 (lit< tt)) in
      let r8 = row_append 256 4 4 r4 (little_row 4 k.ad) in
      let r12 = row_append 256 8 4 r8 (little_row 4 k.text) in
      let r16 = row_append 256 12 4 r12 (zeros_row 4 256 (lit< tt)) in
      let r128 = row_append 256 16 112 r16 (good_row k.registers f.registers_good) in
      let r144 = row_append 256 128 16 r128 f.hash_block in
      let r160 = row_append 256 144 16 r144 f.pending_block in
      row_append 256 160 348 r160 (zeros_row 348 256 (lit< tt))

  -- 512 bytes
  pub block_row : Row 512 256 (block_of k)
  unfolding block_of checked
  block_row = row_append 256 508 4 body_row (little_row 4 (check (body k)))

  at0 : At (block_of k) 0
      ((k.phase ∷ []) ∷ replicate 3 0 ∷ little 4 k.ad ∷ little 4 k.text ∷ replicate 4 0 ∷ registers_bytes k.registers ∷ k.sum.hash
      ∷ k.sum.pending ∷ replicate 348 0 ∷ little 4 (check (body k)) ∷ [])
  unfolding block_of checked body
  at0 =
      record {
        is = regroup (k.phase ∷ []) (replicate 3 0) (little 4 k.ad) (little 4 k.text) (replicate 4 0) (registers_bytes k.registers)
            k.sum.hash k.sum.pending (replicate 348 0) (little 4 (check (body k)));
      }

  -- what stands where
  record Places : Type 0 where
    phase : get_or (block_of k) 0 0 ≡ k.phase
    in_1 : part 1 3 (block_of k) ≡ replicate 3 0
    in_4 : part 4 4 (block_of k) ≡ little 4 k.ad
    in_8 : part 8 4 (block_of k) ≡ little 4 k.text
    in_12 : part 12 4 (block_of k) ≡ replicate 4 0
    in_16 : part 16 112 (block_of k) ≡ registers_bytes k.registers
    in_128 : part 128 16 (block_of k) ≡ k.sum.hash
    in_144 : part 144 16 (block_of k) ≡ k.sum.pending
    in_160 : part 160 348 (block_of k) ≡ replicate 348 0

  places : Places
  places =
      let d1 = down at0 1 refl in
      let d4 = down d1 3 (zeros_long 3) in
      let d8 = down d4 4 (little_long 4 k.ad) in
      let d12 = down d8 4 (little_long 4 k.text) in
      let d16 = down d12 4 (zeros_long 4) in
      let d128 = down d16 112 (good_row k.registers f.registers_good).long in
      let d144 = down d128 16 f.hash_block.long in
      let d160 = down d144 16 f.pending_block.long in
      record {
        phase = ap (λ (l : List ℕ). get_or l 0 0) at0.is;
        in_1 = here d1 3 (zeros_long 3);
        in_4 = here d4 4 (little_long 4 k.ad);
        in_8 = here d8 4 (little_long 4 k.text);
        in_12 = here d12 4 (zeros_long 4);
        in_16 = here d16 112 (good_row k.registers f.registers_good).long;
        in_128 = here d128 16 f.hash_block.long;
        in_144 = here d144 16 f.pending_block.long;
        in_160 = here d160 348 (zeros_long 348);
      }

  -- the registers, from the bytes that list them
  pub registers_block : registers_at (part 16 112 (block_of k)) ≡ k.registers
  registers_block = ap registers_at places.in_16 ∙ registers_back k.registers f.registers_good

  pub read_block : read (block_of k) ≡ k
  unfolding read
  read_block =
      let ad = ap number places.in_4 ∙ number_little 4 k.ad (lt_of_le_of_lt f.ad_fits (lit< tt)) in
      let text = ap number places.in_8 ∙ number_little 4 k.text (lt_of_le_of_lt f.text_fits (lit< tt)) in
      λ i. record {
        phase = places.phase i;
        ad = ad i;
        text = text i;
        registers = registers_block i;
        sum = record { hash = places.in_128 i; pending = places.in_144 i };
      }

  check_block : check_holds (block_of k) ≡ true
  unfolding block_of
  check_block = check_written (body k) body_row.long

  text_rule : (not (eqb k.phase 0) || eqb k.text 0) ≡ true
  text_rule = go (eqb k.phase 0) refl
    where
      go : (b : Bool) → eqb k.phase 0 ≡ b → (not b || eqb k.text 0) ≡ true
      go true e = eq-eqb k.text 0 (f.text_none (eqb-true k.phase 0 e))
      go false e = refl

  pub block_laid : well_laid (block_of k) ≡ true
  unfolding rules
  block_laid =
      rw read_block
      (ten
      (eq-eqb _ _ block_row.long)
      (le-leb _ _ f.phase_is)
      (le-leb _ _ f.ad_fits)
      (le-leb _ _ f.text_fits)
      text_rule
      (rw places.in_144 (behind_all_zero _ k.sum.pending f.zeros_behind))
      (rw places.in_1 (zeros_all_zero 3))
      (rw places.in_12 (zeros_all_zero 4))
      (rw places.in_160 (zeros_all_zero 348))
      check_block)
