-- A step goes back: the clocks by their own inverse, R1 and R2 by the round's, R3 by taking off R2 and then the old a0 to a7. So every state
-- has exactly one state before it and one after it, and the z of the step between them can be had from either.
use mathlib.Core.Path.{◌≡◌, sym, ap, ap₂, ◌∙◌}
use mathlib.Core.List.{List}
use Prim.Native.Nat.{ℕ, ◌*◌}
use lib.Dec.{lit<, lit≤}
use lib.ListN.{take, drop}
use Rattle.words.specs.Xor.{xors}
use Rattle.words.specs.Bytes.{Row, IsBlock, littles}
use Rattle.words.specs.Sums.{◌⊞◌}
use Rattle.words.specs.Differences.{◌⊟◌}
use Rattle.words.proofs.Rows.{row_take, row_drop, tab_all}
use Rattle.words.proofs.Bytes.{littles_long, littles_below}
use Rattle.words.proofs.Sums.{⊞-block, ⊟-block, ⊟-⊞, ⊞-⊟, xors_block, xors_back}
use Rattle.aes.specs.Round.{gathered, round}
use Rattle.aes.specs.Unround.{unround}
use Rattle.aes.proofs.Rounds.{gathered_row, round_block, unround_block, unround_round, round_unround}
use Rattle.lfsr.specs.Clock.{Lfsr, snow_v, clocks, IsLfsr}
use Rattle.lfsr.specs.Unclock.{solved_v, unclocks}
use Rattle.lfsr.proofs.Back.{good_clocks, good_unclocks, unclocks_clocks, clocks_unclocks}
use Rattle.lfsr.proofs.SnowV.{lawful_v, moved_b}
use Rattle.cipher.specs.Registers.{Registers, IsRegisters}
use Rattle.cipher.specs.Step.{sigma, T1, T2, z, step}
use Rattle.cipher.specs.Back.{back, z_before}

-- ---- blocks of cells, and sigma

pub cells_block : {l : List ℕ} → Row 8 65536 l → IsBlock (littles 2 l)
cells_block {l} r = record { long = littles_long 2 l ∙ ap (λ (n : ℕ). n * 2) r.long; below = littles_below 2 l }

pub low_block : {l : List ℕ} → Row 16 65536 l → IsBlock (littles 2 (take 8 l))
low_block r = cells_block (row_take 65536 16 r 8 (lit< tt) (lit≤ tt))

pub high_block : {l : List ℕ} → Row 16 65536 l → IsBlock (littles 2 (drop 8 l))
high_block r = cells_block (row_drop 65536 16 r 8)

pub sigma_block : (x : List ℕ) → IsBlock x → IsBlock (sigma x)
unfolding sigma
sigma_block x h = gathered_row _ x h.below

-- sigma transposes, so it undoes itself
pub sigma_sigma : (x : List ℕ) → IsBlock x → sigma (sigma x) ≡ x
unfolding sigma gathered
sigma_sigma x h = tab_all 16 x h.long

-- ---- the step and the step back

module _ (s : Registers) (g : IsRegisters s) where
  old : Lfsr
  old = unclocks snow_v solved_v 8 s.lfsr

  old_good : IsLfsr old
  unfolding old
  old_good = good_unclocks lawful_v 8 s.lfsr g.cells

  new_good : IsLfsr (clocks snow_v 8 s.lfsr)
  new_good = good_clocks lawful_v 8 s.lfsr g.cells

  t1 : IsBlock (T1 s)
  unfolding T1
  t1 = high_block g.cells.in_b

  t2 : IsBlock (T2 s)
  unfolding T2
  t2 = low_block g.cells.in_a

  -- R3 xor T2
  w : List ℕ
  w = xors s.r3 (T2 s)

  w_block : IsBlock w
  unfolding w
  w_block = xors_block s.r3 (T2 s) g.in_r3 t2

  pub z_block : IsBlock (z s)
  unfolding z
  z_block = xors_block (s.r1 ⊞ T1 s) s.r2 (⊞-block s.r1 (T1 s) g.in_r1 t1) g.in_r2

  pub step_good : IsRegisters (step s)
  unfolding step w
  step_good =
      record {
        cells = new_good;
        in_r1 = sigma_block (s.r2 ⊞ w) (⊞-block s.r2 w g.in_r2 w_block);
        in_r2 = round_block s.r1 g.in_r1;
        in_r3 = round_block s.r2 g.in_r2;
      }

  pub back_step : back (step s) ≡ s
  unfolding step back w T2
  back_step =
      let e : unclocks snow_v solved_v 8 (clocks snow_v 8 s.lfsr) ≡ s.lfsr = unclocks_clocks lawful_v 8 s.lfsr g.cells in
      let e2 : unround (round s.r2) ≡ s.r2 = unround_round s.r2 g.in_r2 in
      let e3 : xors (sigma (sigma (s.r2 ⊞ w)) ⊟ unround (round s.r2)) (littles 2 (take 8 (unclocks snow_v solved_v 8 (clocks snow_v 8 s.lfsr)).a)) ≡ s.r3 =
      ap₂ (λ (x y : List ℕ). xors (x ⊟ y) (littles 2 (take 8 (unclocks snow_v solved_v 8 (clocks snow_v 8 s.lfsr)).a)))
      (sigma_sigma (s.r2 ⊞ w) (⊞-block s.r2 w g.in_r2 w_block)) e2
      ∙ ap₂ (λ (x : List ℕ) (l : Lfsr). xors x (littles 2 (take 8 l.a))) (⊟-⊞ s.r2 w g.in_r2 w_block) e
      ∙ xors_back s.r3 (T2 s) g.in_r3 t2 in
      λ i. record { lfsr = e i; r1 = unround_round s.r1 g.in_r1 i; r2 = e2 i; r3 = e3 i }

  -- what is taken off
  off : List ℕ
  off = sigma s.r1 ⊟ unround s.r3

  u3 : IsBlock (unround s.r3)
  u3 = unround_block s.r3 g.in_r3

  s1 : IsBlock (sigma s.r1)
  s1 = sigma_block s.r1 g.in_r1

  off_block : IsBlock off
  unfolding off
  off_block = ⊟-block (sigma s.r1) (unround s.r3) s1 u3

  old_t2 : IsBlock (littles 2 (take 8 old.a))
  old_t2 = low_block old_good.in_a

  pub back_good : IsRegisters (back s)
  unfolding back off old
  back_good =
      record {
        cells = old_good;
        in_r1 = unround_block s.r2 g.in_r2;
        in_r2 = u3;
        in_r3 = xors_block off (littles 2 (take 8 old.a)) off_block old_t2;
      }

  pub step_back : step (back s) ≡ s
  unfolding step back off old T2
  step_back =
      let t : List ℕ = littles 2 (take 8 old.a) in
      let e : clocks snow_v 8 old ≡ s.lfsr = clocks_unclocks lawful_v 8 s.lfsr g.cells in
      let e1 : sigma (unround s.r3 ⊞ xors (xors off t) t) ≡ s.r1 =
      ap (λ (x : List ℕ). sigma (unround s.r3 ⊞ x)) (xors_back off (littles 2 (take 8 old.a)) off_block old_t2)
      ∙ ap sigma (⊞-⊟ (sigma s.r1) (unround s.r3) s1 u3)
      ∙ sigma_sigma s.r1 g.in_r1 in
      λ i. record { lfsr = e i; r1 = e1 i; r2 = round_unround s.r2 g.in_r2 i; r3 = round_unround s.r3 g.in_r3 i }

  pub z_before_step : z_before (step s) ≡ z s
  unfolding z_before step z T1
  z_before_step =
      ap₂ (λ (x y : List ℕ). xors (x ⊞ littles 2 (take 8 (clocks snow_v 8 s.lfsr).b)) y) (unround_round s.r1 g.in_r1) (unround_round s.r2 g.in_r2)
      ∙ ap (λ (l : List ℕ). xors (s.r1 ⊞ littles 2 l) s.r2) (moved_b s.lfsr g.cells)

-- from the other side
pub z_before_is : (s : Registers) → IsRegisters s → z_before s ≡ z (back s)
z_before_is s g = ap z_before (sym (step_back s g)) ∙ z_before_step (back s) (back_good s g)
