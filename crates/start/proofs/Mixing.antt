-- What is xored into a8 to a15 or into R1 a second time is out again; and both keep registers registers.
use mathlib.Core.Path.{◌≡◌, sym, ap, ap₂, ◌∙◌}
use mathlib.Core.List.{List, ◌++◌}
use Prim.Native.Nat.{ℕ}
use lib.Dec.{lit<, lit≤}
use lib.ListN.{take, drop, take-append-drop}
use lib.Seq.{take_at, drop_at}
use Rattle.words.specs.Xor.{xors}
use Rattle.words.specs.Bytes.{Row, IsBlock, numbers}
use Rattle.words.proofs.Rows.{row_take, row_drop, row_append, xors_row, xors_twice}
use Rattle.words.proofs.Bytes.{numbers_row}
use Rattle.cipher.specs.Registers.{Registers, IsRegisters}
use Rattle.start.specs.Start.{into_a, into_r1}

pub words_row : {x : List ℕ} → IsBlock x → Row 8 65536 (numbers 2 8 x)
words_row r = numbers_row 2 8 (lit< tt) r

module _ (x : List ℕ) (xb : IsBlock x) (s : Registers) (g : IsRegisters s) where
  front : Row 8 65536 (take 8 s.lfsr.a)
  front = row_take 65536 16 g.cells.in_a 8 (lit< tt) (lit≤ tt)

  rear : Row 8 65536 (drop 8 s.lfsr.a)
  rear = row_drop 65536 16 g.cells.in_a 8

  mixed : List ℕ
  mixed = xors (drop 8 s.lfsr.a) (numbers 2 8 x)

  mixed_row : Row 8 65536 mixed
  unfolding mixed
  mixed_row = xors_row 16 8 rear (words_row xb)

  pub into_a_good : IsRegisters (into_a x s)
  unfolding into_a mixed
  into_a_good =
      record {
        cells = record { in_a = row_append 65536 8 8 front mixed_row; in_b = g.cells.in_b };
        in_r1 = g.in_r1;
        in_r2 = g.in_r2;
        in_r3 = g.in_r3;
      }

  pub into_a_twice : into_a x (into_a x s) ≡ s
  unfolding into_a mixed
  into_a_twice =
      let e : take 8 (take 8 s.lfsr.a ++ mixed) ++ xors (drop 8 (take 8 s.lfsr.a ++ mixed)) (numbers 2 8 x) ≡ s.lfsr.a =
      ap₂ (λ (p q : List ℕ). p ++ xors q (numbers 2 8 x)) (take_at (take 8 s.lfsr.a) mixed 8 front.long) (drop_at (take 8 s.lfsr.a) mixed 8 front.long)
      ∙ ap (λ (q : List ℕ). take 8 s.lfsr.a ++ q) (xors_twice (drop 8 s.lfsr.a) (numbers 2 8 x) (rear.long ∙ sym (words_row xb).long))
      ∙ take-append-drop 8 s.lfsr.a in
      λ i. record { lfsr = record { a = e i; b = s.lfsr.b }; r1 = s.r1; r2 = s.r2; r3 = s.r3 }

  pub into_r1_good : IsRegisters (into_r1 x s)
  unfolding into_r1
  into_r1_good = record { cells = g.cells; in_r1 = xors_row 8 16 g.in_r1 xb; in_r2 = g.in_r2; in_r3 = g.in_r3 }

  pub into_r1_twice : into_r1 x (into_r1 x s) ≡ s
  unfolding into_r1
  into_r1_twice = λ i. record { lfsr = s.lfsr; r1 = xors_twice s.r1 x (g.in_r1.long ∙ sym xb.long) i; r2 = s.r2; r3 = s.r3 }
