-- A start is undone step by step: the z that was xored into a8 to a15 hangs on nothing that it was xored into, so it can be had from the state
-- after it and xored out, and then the step goes back.
use mathlib.Core.Path.{◌≡◌, refl, sym, ap, ap₂, ◌∙◌}
use mathlib.Core.List.{List}
use Prim.Native.Nat.{ℕ, zero, suc}
use lib.Dec.{lit<, lit≤}
use lib.ListN.{take, drop}
use Rattle.words.specs.Bytes.{Row, IsBlock}
use Rattle.words.proofs.Rows.{row_take, row_drop, row_append, below_test, zeros_block}
use Rattle.cipher.specs.Registers.{Registers, IsRegisters}
use Rattle.cipher.specs.Step.{z, step}
use Rattle.cipher.specs.Back.{back, z_before}
use Rattle.cipher.specs.Run.{forward, moves}
use Rattle.cipher.specs.declared.Registers as machine
use Rattle.cipher.specs.declared.Before.{Before}
use Rattle.cipher.specs.Machine.{registers_of}
use Rattle.cipher.specs.Inner.{Precedes}
use Rattle.cipher.proofs.Inverse.{z_block, step_good, back_good, back_step, step_back, z_before_step, z_before_is}
use Rattle.cipher.proofs.Moves.{moves_good}
use Rattle.start.specs.Start.{Mode, Mode.plain, Mode.sealed, mode_cells, load, into_a, into_r1, initial, initials, start}
use Rattle.start.specs.Trace.{uninitial, uninitials, loaded}
use Rattle.start.proofs.Mixing.{words_row, into_a_good, into_a_twice, into_r1_good, into_r1_twice}

z_before_block : (s : Registers) → IsRegisters s → IsBlock (z_before s)
z_before_block s g = rw (z_before_is s g) (z_block (back s) (back_good s g))

-- register A is not read
z_before_a : (s : Registers) (x : List ℕ) → z_before (into_a x s) ≡ z_before s
unfolding z_before into_a
z_before_a s x = refl

-- nor for R1 and R2 before the step
pub precedes_a : (s t : machine.Registers) (p : Before) (x : List ℕ) → registers_of t ≡ into_a x (registers_of s) → Precedes s p → Precedes t p
unfolding back z_before into_a
precedes_a s t p x e h =
    record {
      r1 = h.r1 ∙ ap (λ (u : Registers). (back u).r1) (sym e);
      r2 = h.r2 ∙ ap (λ (u : Registers). (back u).r2) (sym e);
      z = h.z ∙ ap z_before (sym e);
    }

-- ---- one of the sixteen steps

pub initial_good : (s : Registers) → IsRegisters s → IsRegisters (initial s)
unfolding initial
initial_good s g = into_a_good (z s) (z_block s g) (step s) (step_good s g)

pub uninitial_good : (s : Registers) → IsRegisters s → IsRegisters (uninitial s)
unfolding uninitial
uninitial_good s g = back_good (into_a (z_before s) s) (into_a_good (z_before s) (z_before_block s g) s g)

pub uninitial_initial : (s : Registers) → IsRegisters s → uninitial (initial s) ≡ s
unfolding initial uninitial
uninitial_initial s g =
    let seen : z_before (into_a (z s) (step s)) ≡ z s = z_before_a (step s) (z s) ∙ z_before_step s g in
    ap (λ (x : List ℕ). back (into_a x (into_a (z s) (step s)))) seen
    ∙ ap back (into_a_twice (z s) (z_block s g) (step s) (step_good s g))
    ∙ back_step s g

pub initial_uninitial : (s : Registers) → IsRegisters s → initial (uninitial s) ≡ s
unfolding initial uninitial
initial_uninitial s g =
    let m : Registers = into_a (z_before s) s in
    let mg : IsRegisters m = into_a_good (z_before s) (z_before_block s g) s g in
    let stepped : step (back m) ≡ m = step_back m mg in
    let seen : z (back m) ≡ z_before s = sym (z_before_is m mg) ∙ z_before_a s (z_before s) in
    ap₂ (λ (x : List ℕ) (t : Registers). into_a x t) seen stepped ∙ into_a_twice (z_before s) (z_before_block s g) s g

-- ---- several

pub initials_good : (n : ℕ) (s : Registers) → IsRegisters s → IsRegisters (initials n s)
unfolding initials
initials_good zero s g = g
initials_good (suc n) s g = initial_good (initials n s) (initials_good n s g)

pub uninitials_good : (n : ℕ) (s : Registers) → IsRegisters s → IsRegisters (uninitials n s)
unfolding uninitials
uninitials_good zero s g = g
uninitials_good (suc n) s g = uninitials_good n (uninitial s) (uninitial_good s g)

uninitials_initials : (n : ℕ) (s : Registers) → IsRegisters s → uninitials n (initials n s) ≡ s
unfolding initials uninitials
uninitials_initials zero s g = refl
uninitials_initials (suc n) s g = ap (uninitials n) (uninitial_initial (initials n s) (initials_good n s g)) ∙ uninitials_initials n s g

initials_uninitials : (n : ℕ) (s : Registers) → IsRegisters s → initials n (uninitials n s) ≡ s
unfolding initials uninitials
initials_uninitials zero s g = refl
initials_uninitials (suc n) s g = ap initial (initials_uninitials n (uninitial s) (uninitial_good s g)) ∙ initial_uninitial s g

-- ---- the start

pub mode_row : (m : Mode) → Row 8 65536 (mode_cells m)
mode_row plain = record { long = refl; below = below_test 65536 (mode_cells plain) (lit< tt) refl }
mode_row sealed = record { long = refl; below = below_test 65536 (mode_cells sealed) (lit< tt) refl }

module _ (key : List ℕ) (k : Row 32 256 key) where
  pub low : IsBlock (take 16 key)
  low = row_take 256 32 k 16 (lit< tt) (lit≤ tt)

  pub high : IsBlock (drop 16 key)
  high = row_drop 256 32 k 16

  pub load_good : (iv : List ℕ) (m : Mode) → IsBlock iv → IsRegisters (load key iv m)
  unfolding load
  load_good iv m v =
      record {
        cells = record { in_a = row_append 65536 8 8 (words_row v) (words_row low); in_b = row_append 65536 8 8 (mode_row m) (words_row high) };
        in_r1 = zeros_block;
        in_r2 = zeros_block;
        in_r3 = zeros_block;
      }

  pub start_good : (iv : List ℕ) (m : Mode) → IsBlock iv → IsRegisters (start key iv m)
  unfolding start
  start_good iv m v =
      let g15 = initials_good 15 (load key iv m) (load_good iv m v) in
      let k15 = into_r1_good (take 16 key) low (initials 15 (load key iv m)) g15 in
      into_r1_good (drop 16 key) high _ (initial_good _ k15)

  -- and however many blocks are drawn from it
  pub drawn_good : (iv : List ℕ) (m : Mode) → IsBlock iv → (n : ℕ) → IsRegisters (moves forward n (start key iv m))
  drawn_good iv m v n = moves_good forward n (start key iv m) (start_good iv m v)

  pub loaded_start : (iv : List ℕ) (m : Mode) → IsBlock iv → loaded key (start key iv m) ≡ load key iv m
  unfolding start loaded
  loaded_start iv m v =
      let l : Registers = load key iv m in
      let g : IsRegisters l = load_good iv m v in
      let s15 : Registers = initials 15 l in
      let g15 : IsRegisters s15 = initials_good 15 l g in
      let k15 : Registers = into_r1 (take 16 key) s15 in
      let h15 : IsRegisters k15 = into_r1_good (take 16 key) low s15 g15 in
      ap (λ (u : Registers). uninitials 15 (into_r1 (take 16 key) (uninitial u))) (into_r1_twice (drop 16 key) high (initial k15) (initial_good k15 h15))
      ∙ ap (λ (u : Registers). uninitials 15 (into_r1 (take 16 key) u)) (uninitial_initial k15 h15)
      ∙ ap (uninitials 15) (into_r1_twice (take 16 key) low s15 g15)
      ∙ uninitials_initials 15 l g

  pub loaded_good : (s : Registers) → IsRegisters s → IsRegisters (loaded key s)
  unfolding loaded
  loaded_good s g =
      let h = into_r1_good (drop 16 key) high s g in
      let u = uninitial_good (into_r1 (drop 16 key) s) h in
      uninitials_good 15 _ (into_r1_good (take 16 key) low _ u)

  pub start_loaded : (iv : List ℕ) (m : Mode) (s : Registers) → IsRegisters s → load key iv m ≡ loaded key s → start key iv m ≡ s
  unfolding start loaded
  start_loaded iv m s g e =
      let k16 : Registers = into_r1 (drop 16 key) s in
      let h16 : IsRegisters k16 = into_r1_good (drop 16 key) high s g in
      let s15 : Registers = uninitial k16 in
      let g15 : IsRegisters s15 = uninitial_good k16 h16 in
      let k15 : Registers = into_r1 (take 16 key) s15 in
      let h15 : IsRegisters k15 = into_r1_good (take 16 key) low s15 g15 in
      ap (λ (l : Registers). into_r1 (drop 16 key) (initial (into_r1 (take 16 key) (initials 15 l)))) e
      ∙ ap (λ (u : Registers). into_r1 (drop 16 key) (initial (into_r1 (take 16 key) u))) (initials_uninitials 15 k15 h15)
      ∙ ap (λ (u : Registers). into_r1 (drop 16 key) (initial u)) (into_r1_twice (take 16 key) low s15 g15)
      ∙ ap (into_r1 (drop 16 key)) (initial_uninitial k16 h16)
      ∙ into_r1_twice (drop 16 key) high s g
