-- The code's blocks against the definitions: a block's words as cells, sameness of blocks by their words, the IV as two halves, and what loading
-- and mixing make of the registers.
use mathlib.Core.Path.{◌≡◌, sym, ap, ap₂, ◌∙◌}
use mathlib.Core.Bool.{true, false}
use mathlib.Core.List.{List, [], ◌∷◌, ◌++◌}
use Prim.Native.Nat.{ℕ, ◌+◌, ◌*◌, ◌/◌, ◌%◌, ◌^◌, ◌<◌}
use native.Mathlib.Omega.{arith}
use lib.ListN.{take, drop}
use lib.Seq.{take_at, drop_at}
use Rattle.words.specs.Xor.{xors}
use Rattle.words.specs.Bytes.{Row, IsBlock, little, number, littles, numbers, zeros}
use Rattle.words.specs.Machine.{bytes_of}
use Rattle.words.specs.declared.Block.{Block}
use Rattle.words.proofs.Rows.{xors_row}
use Rattle.words.proofs.Bytes.{littles_xor, littles_numbers, numbers_littles}
use Rattle.words.proofs.Blocks.{Words, bytes_of_block}
use Rattle.cipher.specs.Registers.{Registers}
use Rattle.start.specs.Start.{Mode, Mode.plain, Mode.sealed, mode_cells, load}
use Rattle.start.specs.Leads.{Traced.origin, Traced.refused}
use Rattle.start.specs.Trace.{loads, unload}
use Rattle.start.proofs.Mixing.{words_row}
use Rattle.start.proofs.Undo.{mode_row}

-- ---- a block's cells

pub block_cells : (x : Block) → Words x
    → x.w0 % 0x10000 ∷ x.w0 / 0x10000 ∷ x.w1 % 0x10000 ∷ x.w1 / 0x10000 ∷ x.w2 % 0x10000 ∷ x.w2 / 0x10000 ∷ x.w3 % 0x10000 ∷ x.w3 / 0x10000 ∷ []
    ≡ numbers 2 8 (bytes_of x)
unfolding bytes_of numbers number littles little
block_cells x w =
    λ i. low x.w0 i ∷ high x.w0 w.in_0 i ∷ low x.w1 i ∷ high x.w1 w.in_1 i ∷ low x.w2 i ∷ high x.w2 w.in_2 i
    ∷ low x.w3 i ∷ high x.w3 w.in_3 i ∷ []
  where
    low : (v : ℕ) → v % 0x10000 ≡ v % 256 + 256 * (v / 256 % 256 + 256 * 0)
    low v = omega arith

    high : (v : ℕ) → v < 2 ^ 32 → v / 0x10000 ≡ v / 256 / 256 % 256 + 256 * (v / 256 / 256 / 256 % 256 + 256 * 0)
    high v h = omega arith

-- ---- the key's halves

module _ (x y : Block) where
  pub key_low : take 16 (bytes_of x ++ bytes_of y) ≡ bytes_of x
  key_low = take_at (bytes_of x) (bytes_of y) 16 (bytes_of_block x).long

  pub key_high : drop 16 (bytes_of x ++ bytes_of y) ≡ bytes_of y
  key_high = drop_at (bytes_of x) (bytes_of y) 16 (bytes_of_block x).long

-- ---- loading

pub is_load : (low high iv m : Block) (mode : Mode) (a b : List ℕ) (z1 z2 z3 : List ℕ) → bytes_of m ≡ littles 2 (mode_cells mode)
    → a ≡ numbers 2 8 (bytes_of iv) ++ numbers 2 8 (bytes_of low) → b ≡ numbers 2 8 (bytes_of m) ++ numbers 2 8 (bytes_of high)
    → z1 ≡ zeros → z2 ≡ zeros → z3 ≡ zeros
    → ◌≡◌ {A = Registers} (record { lfsr = record { a = a; b = b }; r1 = z1; r2 = z2; r3 = z3 }) (load (bytes_of low ++ bytes_of high) (bytes_of iv) mode)
unfolding load
is_load low high iv m mode a b z1 z2 z3 em ea eb e1 e2 e3 =
    let pa : a ≡ numbers 2 8 (bytes_of iv) ++ numbers 2 8 (take 16 (bytes_of low ++ bytes_of high)) =
    ea ∙ ap (λ (l : List ℕ). numbers 2 8 (bytes_of iv) ++ numbers 2 8 l) (sym (key_low low high)) in
    let pb : b ≡ mode_cells mode ++ numbers 2 8 (drop 16 (bytes_of low ++ bytes_of high)) =
    eb ∙ ap₂ (λ (l k : List ℕ). l ++ numbers 2 8 k) (ap (numbers 2 8) em ∙ numbers_littles 2 8 (mode_cells mode) (mode_row mode)) (sym (key_high low high)) in
    λ i. record { lfsr = record { a = pa i; b = pb i }; r1 = e1 i; r2 = e2 i; r3 = e3 i }

-- ---- what is xored into the upper cells

pub mixed_cells : (l x : List ℕ) → Row 8 65536 l → IsBlock x → numbers 2 8 (xors (littles 2 l) x) ≡ xors l (numbers 2 8 x)
mixed_cells l x r b =
    ap (λ (t : List ℕ). numbers 2 8 (xors (littles 2 l) t)) (sym (littles_numbers 2 8 x b))
    ∙ ap (numbers 2 8) (sym (littles_xor 2 l (numbers 2 8 x) (r.long ∙ sym (words_row b).long)))
    ∙ numbers_littles 2 8 (xors l (numbers 2 8 x)) (xors_row 16 8 r (words_row b))

-- ---- the IV as two halves

pub halves_bytes : (x : Block) (lo hi : ℕ) → little 8 lo ≡ little 4 x.w0 ++ little 4 x.w1 → little 8 hi ≡ little 4 x.w2 ++ little 4 x.w3
    → little 8 lo ++ little 8 hi ≡ bytes_of x
unfolding bytes_of littles little
halves_bytes x lo hi p q = λ i. p i ++ q i

-- ---- what was loaded

module _ (key : List ℕ) (s : Registers) where
  pub in_plain : loads key plain s ≡ true → origin (littles 2 (take 8 s.lfsr.a)) plain ≡ unload key s
  unfolding unload
  in_plain p = rw p

  pub in_sealed : loads key plain s ≡ false → loads key sealed s ≡ true → origin (littles 2 (take 8 s.lfsr.a)) sealed ≡ unload key s
  unfolding unload
  in_sealed p q = rw (p, q)

  pub in_neither : loads key plain s ≡ false → loads key sealed s ≡ false → refused 6 ≡ unload key s
  unfolding unload
  in_neither p q = rw (p, q)
