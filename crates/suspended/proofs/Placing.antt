-- How code writes the registers to a slice, a register of cells by its halves and then field behind field, and how it reads them; and blocks one
-- behind the other.
use mathlib.Core.Path.{◌≡◌, sym, ap, ap₂, ◌∙◌}
use mathlib.Core.List.{List, ◌++◌}
use Prim.Native.Nat.{ℕ, ◌+◌}
use native.Mathlib.Omega.{arith}
use lib.Dec.{lit≤}
use lib.ListN.{length, take, drop, take-append-drop}
use lib.Seq.{sets}
use Rattle.words.specs.Bytes.{littles, numbers, part, IsBlock}
use Rattle.words.specs.declared.Block.{Block}
use Rattle.words.specs.Machine.{bytes_of}
use Rattle.words.proofs.Rows.{row_append}
use Rattle.words.proofs.Bytes.{littles_append}
use Rattle.words.proofs.Blocks.{bytes_of_block}
use Rattle.words.proofs.Parts.{part_part}
use Rattle.words.proofs.Writing.{put_next}
use Rattle.cipher.specs.declared.Registers as machine
use Rattle.cipher.specs.Registers.{Registers}
use Rattle.cipher.specs.Machine.{registers_of}
use Rattle.layout.specs.Block.{registers_bytes, registers_at}
use Rattle.layout.proofs.RegisterBytes.{cells_row, registers_row}

-- ---- written

behind : (at : ℕ) {n k : ℕ} → n ≡ k → at + k ≡ at + n
behind at e = ap (λ (n : ℕ). at + n) (sym e)

pub put_halves : (l : List ℕ) (x y : Block) (out : List ℕ) (at : ℕ) {o1 o2 : List ℕ} → bytes_of x ≡ littles 2 (take 8 l) → bytes_of y ≡ littles 2 (drop 8 l)
    → o1 ≡ sets out at (bytes_of x) → o2 ≡ sets o1 (at + 16) (bytes_of y) → o2 ≡ sets out at (littles 2 l)
put_halves l x y out at p q e f =
    put_next out (bytes_of x) (bytes_of y) at (at + 16) (behind at (bytes_of_block x).long) e f
    ∙ ap (sets out at) (ap₂ (λ (a b : List ℕ). a ++ b) p q ∙ sym (littles_append 2 (take 8 l) (drop 8 l)) ∙ ap (littles 2) (take-append-drop 8 l))

-- what the type of the code's state says of its cells
module _ (s : machine.Registers) (na : length s.lfsr.a ≡ 16) (nb : length s.lfsr.b ≡ 16) where
  pub registers_long : length (registers_bytes (registers_of s)) ≡ 112
  registers_long = (registers_row (registers_of s) na nb (bytes_of_block s.r1) (bytes_of_block s.r2) (bytes_of_block s.r3)).long

  pub put_registers : (out : List ℕ) (at : ℕ) {o1 o2 o3 o4 o5 : List ℕ} → o1 ≡ sets out at (littles 2 s.lfsr.a)
      → o2 ≡ sets o1 (at + 32) (littles 2 s.lfsr.b) → o3 ≡ sets o2 (at + 64) (bytes_of s.r1) → o4 ≡ sets o3 (at + 80) (bytes_of s.r2)
      → o5 ≡ sets o4 (at + 96) (bytes_of s.r3) → o5 ≡ sets out at (registers_bytes (registers_of s))
  unfolding registers_bytes
  put_registers out at e1 e2 e3 e4 e5 =
      let a = littles 2 s.lfsr.a in
      let ab = a ++ littles 2 s.lfsr.b in
      let n32 = cells_row s.lfsr.a na in
      let n64 = row_append 256 32 32 n32 (cells_row s.lfsr.b nb) in
      let n80 = row_append 256 64 16 n64 (bytes_of_block s.r1) in
      let n96 = row_append 256 80 16 n80 (bytes_of_block s.r2) in
      let p64 = put_next out a (littles 2 s.lfsr.b) at (at + 32) (behind at n32.long) e1 e2 in
      let p80 = put_next out ab (bytes_of s.r1) at (at + 64) (behind at n64.long) p64 e3 in
      let p96 = put_next out (ab ++ bytes_of s.r1) (bytes_of s.r2) at (at + 80) (behind at n80.long) p80 e4 in
      put_next out (ab ++ bytes_of s.r1 ++ bytes_of s.r2) (bytes_of s.r3) at (at + 96) (behind at n96.long) p96 e5

-- ---- blocks, one behind the other

module _ (out : List ℕ) (at : ℕ) {a : List ℕ} (row : IsBlock a) (b : List ℕ) {o1 o2 : List ℕ} (e1 : o1 ≡ sets out at a) (e2 : o2 ≡ sets o1 (at + 16) b) where
  pub put_two : o2 ≡ sets out at (a ++ b)
  put_two = put_next out a b at (at + 16) (let l = row.long in omega arith) e1 e2

  pub put_three : IsBlock b → (c : List ℕ) {o3 : List ℕ} → o3 ≡ sets o2 (at + 32) c → o3 ≡ sets out at (a ++ b ++ c)
  put_three row-b c e3 = put_next out (a ++ b) c at (at + 32) (let l = (row_append 256 16 16 row row-b).long in omega arith) put_two e3

-- ---- read

pub get_registers : (s : List ℕ) (at : ℕ) {a b r1 r2 r3 : List ℕ} → a ≡ numbers 2 16 (part at 32 s) → b ≡ numbers 2 16 (part (at + 32) 32 s)
    → r1 ≡ part (at + 64) 16 s → r2 ≡ part (at + 80) 16 s → r3 ≡ part (at + 96) 16 s
    → ◌≡◌ {A = Registers} (record { lfsr = record { a = a; b = b }; r1 = r1; r2 = r2; r3 = r3 }) (registers_at (part at 112 s))
unfolding registers_at
get_registers s at ea eb e1 e2 e3 =
    let z : at ≡ at + 0 = omega arith in
    let p0 = ap (λ (n : ℕ). part n 32 s) z ∙ sym (part_part s at 112 0 32 (lit≤ tt)) in
    let fa = ea ∙ ap (numbers 2 16) p0 in
    let fb = eb ∙ ap (numbers 2 16) (sym (part_part s at 112 32 32 (lit≤ tt))) in
    let f1 = e1 ∙ sym (part_part s at 112 64 16 (lit≤ tt)) in
    let f2 = e2 ∙ sym (part_part s at 112 80 16 (lit≤ tt)) in
    let f3 = e3 ∙ sym (part_part s at 112 96 16 (lit≤ tt)) in
    λ i. record { lfsr = record { a = fa i; b = fb i }; r1 = f1 i; r2 = f2 i; r3 = f3 i }
