-- The 112 bytes of the registers, field by field: they and the registers determine each other.
use mathlib.Core.Path.{◌≡◌, refl, ap, ◌∙◌}
use mathlib.Core.List.{List, [], ◌∷◌, append_assoc, append-nil}
use Prim.Native.Nat.{ℕ, ◌+◌, ◌*◌, ◌≤◌}
use native.Mathlib.Omega.{arith}
use lib.Dec.{lit<, lit≤}
use lib.ListN.{length}
use lib.Seq.{take_all}
use Rattle.words.specs.Bytes.{littles, numbers, Row, IsBlock, part}
use Rattle.words.proofs.Rows.{row_append}
use Rattle.words.proofs.Bytes.{littles_long, littles_below, littles_numbers, numbers_littles, numbers_row}
use Rattle.words.proofs.Parts.{part_row, At, down, here, grow}
use Rattle.cipher.specs.Registers.{Registers, IsRegisters}
use Rattle.layout.specs.Block.{registers_bytes, registers_at}

-- a register of cells as bytes
pub cells_row : (l : List ℕ) → length l ≡ 16 → Row 32 256 (littles 2 l)
cells_row l e = record { long = littles_long 2 l ∙ ap (λ (n : ℕ). n * 2) e; below = littles_below 2 l }

pub registers_row : (s : Registers) → length s.lfsr.a ≡ 16 → length s.lfsr.b ≡ 16 → IsBlock s.r1 → IsBlock s.r2 → IsBlock s.r3
    → Row 112 256 (registers_bytes s)
unfolding registers_bytes
registers_row s na nb r1 r2 r3 =
    row_append 256 96 16 (row_append 256 80 16 (row_append 256 64 16 (row_append 256 32 32 (cells_row s.lfsr.a na) (cells_row s.lfsr.b nb)) r1) r2) r3

-- ---- from the registers to their bytes and back

module _ (s : Registers) (g : IsRegisters s) where
  pub good_row : Row 112 256 (registers_bytes s)
  good_row = registers_row s g.cells.in_a.long g.cells.in_b.long g.in_r1 g.in_r2 g.in_r3

  long_a : length (littles 2 s.lfsr.a) ≡ 32
  long_a = (cells_row s.lfsr.a g.cells.in_a.long).long

  long_b : length (littles 2 s.lfsr.b) ≡ 32
  long_b = (cells_row s.lfsr.b g.cells.in_b.long).long

  at0 : At (registers_bytes s) 0 (littles 2 s.lfsr.a ∷ littles 2 s.lfsr.b ∷ s.r1 ∷ s.r2 ∷ s.r3 ∷ [])
  unfolding registers_bytes
  at0 = record { is = simp (append_assoc, append-nil) }

  pub registers_back : registers_at (registers_bytes s) ≡ s
  unfolding registers_at
  registers_back =
      let d32 = down at0 32 long_a in
      let d64 = down d32 32 long_b in
      let d80 = down d64 16 g.in_r1.long in
      let d96 = down d80 16 g.in_r2.long in
      let ea = ap (numbers 2 16) (here at0 32 long_a) ∙ numbers_littles 2 16 s.lfsr.a g.cells.in_a in
      let eb = ap (numbers 2 16) (here d32 32 long_b) ∙ numbers_littles 2 16 s.lfsr.b g.cells.in_b in
      let e1 = here d64 16 g.in_r1.long in
      let e2 = here d80 16 g.in_r2.long in
      let e3 = here d96 16 g.in_r3.long in
      λ i. record { lfsr = record { a = ea i; b = eb i }; r1 = e1 i; r2 = e2 i; r3 = e3 i }

-- ---- from the bytes to the registers and back

module _ (s : List ℕ) (r : Row 112 256 s) where
  row : (at k : ℕ) → at + k ≤ 112 → Row k 256 (part at k s)
  row at k h = part_row 256 112 (lit< tt) r at k h

  pub bytes_back : registers_bytes (registers_at s) ≡ s
  unfolding registers_bytes registers_at
  bytes_back =
      let g32 = littles_numbers 2 16 (part 0 32 s) (row 0 32 (lit≤ tt)) in
      let g64 = grow s 32 32 g32 (littles_numbers 2 16 (part 32 32 s) (row 32 32 (lit≤ tt))) in
      let g80 = grow s 64 16 {f = part 64 16 s} g64 refl in
      let g96 = grow s 80 16 {f = part 80 16 s} g80 refl in
      grow s 96 16 {f = part 96 16 s} g96 refl ∙ take_all 112 s (omega (arith, r.long))

  pub at_good : IsRegisters (registers_at s)
  unfolding registers_at
  at_good =
      record {
        cells = record { in_a = numbers_row 2 16 (lit< tt) (row 0 32 (lit≤ tt)); in_b = numbers_row 2 16 (lit< tt) (row 32 32 (lit≤ tt)) };
        in_r1 = row 64 16 (lit≤ tt);
        in_r2 = row 80 16 (lit≤ tt);
        in_r3 = row 96 16 (lit≤ tt);
      }
