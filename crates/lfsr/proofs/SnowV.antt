-- SNOW-V's taps are lawful: `solved_v` and x ⊕ beta (alpha x) are linear, so that one undoes the other since it does so on sixteen cells.
use mathlib.Core.Path.{◌≡◌, ap₂}
use Prim.Native.Nat.{ℕ, ◌≤◌, ◌^◌, ◌<◌}
use lib.Dec.{lit<, lit≤, T}
use lib.ListN.{take, drop}
use Rattle.words.specs.Xor.{◌⊕◌}
use Rattle.words.proofs.XorLaws.{⊕-lt}
use Rattle.lfsr.specs.Clock.{Lfsr, snow_v, IsLfsr, clocks}
use Rattle.lfsr.specs.Cells.{times, over, alpha, beta}
use Rattle.lfsr.specs.Unclock.{shl, spread, solve, solved_v}
use Rattle.lfsr.proofs.Root.{over_lt}
use Rattle.lfsr.proofs.Linear.{Linear, agree, linear_same, linear_sum, linear_after, linear_shl, linear_bit, linear_times, agreed}
use Rattle.lfsr.proofs.Shift.{Reads}
use Rattle.lfsr.proofs.Back.{Lawful}
use Rattle.lfsr.proofs.Window.{window_a, window_b}

linear_spread : Linear spread
unfolding spread shl
linear_spread =
    let p = linear_sum linear_same (linear_shl 2) in
    let q = linear_sum p (linear_after (linear_shl 4) p) in
    linear_sum q (linear_after (linear_shl 8) q)

linear_solve : (k l : ℕ) → k < 2 ^ 16 → l < 2 ^ 16 → Linear (solve k l)
unfolding solve
linear_solve k l hk hl =
    linear_sum (linear_sum linear_spread (linear_after (linear_bit 14 k hk) linear_spread)) (linear_after (linear_bit 15 l hl) linear_spread)

-- a linear map solves x ⊕ beta (alpha x) where it does so on sixteen cells
module _ {alpha beta solved : ℕ → ℕ} (la : Linear alpha) (lb : Linear beta) (ls : Linear solved) where
  mixed : Linear (λ x. x ⊕ beta (alpha x))
  mixed = linear_sum linear_same (linear_after lb la)

  solves_left : T (agree (λ x. solved (x ⊕ beta (alpha x))) (λ x. x) 16) → (x : ℕ) → x < 2 ^ 16 → solved (x ⊕ beta (alpha x)) ≡ x
  solves_left = agreed (linear_after ls mixed) linear_same

  solves_right : T (agree (λ y. solved y ⊕ beta (alpha (solved y))) (λ y. y) 16) → (y : ℕ) → y < 2 ^ 16 → solved y ⊕ beta (alpha (solved y)) ≡ y
  solves_right = agreed (linear_after mixed ls) linear_same

-- a cell i and, times an inverse, cell 8
reads : (i d : ℕ) → 1 ≤ i → i ≤ 8 → d < 2 ^ 16 → Reads (λ r. r i ⊕ over d (r 8))
reads i d p q hd =
    record {
      near = λ r u h. ap₂ (λ (x y : ℕ). x ⊕ over d y) (h i p q) (h 8 (lit≤ tt) (lit≤ tt));
      keeps = λ r h. ⊕-lt 16 (r i) (over d (r 8)) (h i) (over_lt d (r 8) hd (h 8));
    }

-- the two tests
left_test : T (agree (λ x. solved_v (x ⊕ beta (alpha x))) (λ x. x) 16)
unfolding solve spread shl times ◌⊕◌
left_test = tt

right_test : T (agree (λ y. solved_v y ⊕ beta (alpha (solved_v y))) (λ y. y) 16)
unfolding solve spread shl times ◌⊕◌
right_test = tt

pub lawful_v : Lawful snow_v solved_v
lawful_v =
    let la : Linear alpha = linear_times _ (lit< tt) in
    let lb : Linear beta = linear_times _ (lit< tt) in
    let ls : Linear solved_v = linear_solve _ _ (lit< tt) (lit< tt) in
    record {
      linear_alpha = la;
      linear_beta = lb;
      linear_solved = ls;
      reads_a = reads 1 _ (lit≤ tt) (lit≤ tt) (lit< tt);
      reads_b = reads 3 _ (lit≤ tt) (lit≤ tt) (lit< tt);
      left = solves_left la lb ls left_test;
      right = solves_right la lb ls right_test;
    }

-- eight clocks move the upper half of a register down
pub moved_a : (s : Lfsr) → IsLfsr s → take 8 (clocks snow_v 8 s).a ≡ drop 8 s.a
moved_a s g = window_a lawful_v s.a s.b g.in_a.long g.in_b.long

pub moved_b : (s : Lfsr) → IsLfsr s → take 8 (clocks snow_v 8 s).b ≡ drop 8 s.b
moved_b s g = window_b lawful_v s.a s.b g.in_a.long g.in_b.long
