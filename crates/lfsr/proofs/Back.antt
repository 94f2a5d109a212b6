-- A clock and a clock back undo each other, for all lawful taps: the other cells only move, and cells 0 solve two linear equations whose
-- right sides, p and q, are what the last cells hold beside what the taps gave.
use mathlib.Core.Path.{◌≡◌, refl, sym, ap, ap₂, ◌∙◌}
use mathlib.Core.List.{List, ◌∷◌}
use Prim.Native.Nat.{ℕ, zero, suc, ◌^◌, ◌<◌}
use Rattle.words.specs.Xor.{◌⊕◌}
use Rattle.words.proofs.XorLaws.{⊕-lt, ⊕-left, xor}
use Rattle.lfsr.specs.Clock.{Lfsr, Taps, IsLfsr, cell, clock, clocks}
use Rattle.lfsr.specs.Unclock.{old_a, old_b, untapped, unclock, unclocks}
use Rattle.lfsr.proofs.Linear.{Linear}
use Rattle.lfsr.proofs.Shift.{Reads, shift_take, first, shift_register, unshift_register, untapped_shift, shift_untapped, untapped_lt, fresh_lt}

-- what taps, and the map that solves for cell 0, owe
pub record Lawful (t : Taps) (solved : ℕ → ℕ) : Type 0 where
  pub linear_alpha : Linear t.alpha
  pub linear_beta : Linear t.beta
  pub linear_solved : Linear solved
  pub reads_a : Reads t.tap_a
  pub reads_b : Reads t.tap_b
  pub left : (x : ℕ) → x < 2 ^ 16 → solved (x ⊕ t.beta (t.alpha x)) ≡ x
  pub right : (y : ℕ) → y < 2 ^ 16 → solved y ⊕ t.beta (t.alpha (solved y)) ≡ y

abbrev pub mk : List ℕ → List ℕ → Lfsr
mk a b = record { a = a; b = b }

module _ {t : Taps} {solved : ℕ → ℕ} (w : Lawful t solved) where
  -- ---- cells x and y are found from p, which is y ⊕ alpha x, and q, which is x ⊕ beta y

  module _ (x y : ℕ) (hx : x < 2 ^ 16) (hy : y < 2 ^ 16) where
    found_a : old_a t solved (y ⊕ t.alpha x) (x ⊕ t.beta y) ≡ x
    unfolding old_a
    found_a = simp (old_a, w.linear_beta.adds y (t.alpha x) hy (w.linear_alpha.keeps x hx), xor) (w.left x hx)

    found_b : old_b t solved (y ⊕ t.alpha x) (x ⊕ t.beta y) ≡ y
    unfolding old_b
    found_b = rw found_a (simp xor)

  module _ (p q : ℕ) (hp : p < 2 ^ 16) (hq : q < 2 ^ 16) where
    sum_lt : q ⊕ t.beta p < 2 ^ 16
    sum_lt = ⊕-lt 16 q (t.beta p) hq (w.linear_beta.keeps p hp)

    pub old_a_lt : old_a t solved p q < 2 ^ 16
    unfolding old_a
    old_a_lt = w.linear_solved.keeps (q ⊕ t.beta p) sum_lt

    pub old_b_lt : old_b t solved p q < 2 ^ 16
    unfolding old_b
    old_b_lt = ⊕-lt 16 p (t.alpha (old_a t solved p q)) hp (w.linear_alpha.keeps (old_a t solved p q) old_a_lt)

    pub made_p : old_b t solved p q ⊕ t.alpha (old_a t solved p q) ≡ p
    unfolding old_b
    made_p = simp xor

    pub made_q : old_a t solved p q ⊕ t.beta (old_b t solved p q) ≡ q
    unfolding old_a old_b
    made_q =
        let y = q ⊕ t.beta p in
        let n = solved y in
        ap (λ (z : ℕ). n ⊕ z) (w.linear_beta.adds p (t.alpha n) hp (w.linear_alpha.keeps n (w.linear_solved.keeps y sum_lt)))
        ∙ ⊕-left n (t.beta p) (t.beta (t.alpha n)) ∙ ap (λ (z : ℕ). t.beta p ⊕ z) (w.right y sum_lt) ∙ simp xor

  -- ---- one clock

  module _ (s : Lfsr) (g : IsLfsr s) where
    pub good_clock : IsLfsr (clock t s)
    unfolding clock
    good_clock =
        record {
          in_a = shift_register g.in_a _ (fresh_lt g.in_a w.reads_a w.linear_alpha _ (g.in_b.below 0));
          in_b = shift_register g.in_b _ (fresh_lt g.in_b w.reads_b w.linear_beta _ (g.in_a.below 0));
        }

    pub unclock_clock : unclock t solved (clock t s) ≡ s
    unfolding clock unclock
    unclock_clock =
        let x = cell s.a 0 in
        let y = cell s.b 0 in
        let p = untapped_shift g.in_a w.reads_a (y ⊕ t.alpha x) in
        let q = untapped_shift g.in_b w.reads_b (x ⊕ t.beta y) in
        ap₂ mk
        (ap₂ (λ (z : ℕ) (l : List ℕ). z ∷ l) (ap₂ (old_a t solved) p q ∙ found_a x y (g.in_a.below 0) (g.in_b.below 0)) (shift_take g.in_a _) ∙ first g.in_a)
        (ap₂ (λ (z : ℕ) (l : List ℕ). z ∷ l) (ap₂ (old_b t solved) p q ∙ found_b x y (g.in_a.below 0) (g.in_b.below 0)) (shift_take g.in_b _) ∙ first g.in_b)

    p_of : ℕ
    p_of = untapped t.tap_a s.a

    q_of : ℕ
    q_of = untapped t.tap_b s.b

    p_lt : p_of < 2 ^ 16
    unfolding p_of
    p_lt = untapped_lt g.in_a w.reads_a

    q_lt : q_of < 2 ^ 16
    unfolding q_of
    q_lt = untapped_lt g.in_b w.reads_b

    pub good_unclock : IsLfsr (unclock t solved s)
    unfolding unclock p_of q_of
    good_unclock =
        record {
          in_a = unshift_register g.in_a _ (old_a_lt p_of q_of p_lt q_lt);
          in_b = unshift_register g.in_b _ (old_b_lt p_of q_of p_lt q_lt);
        }

    pub clock_unclock : clock t (unclock t solved s) ≡ s
    unfolding clock unclock p_of q_of
    clock_unclock =
        ap₂ mk
        (shift_untapped g.in_a w.reads_a (old_a t solved p_of q_of) _ (made_p p_of q_of p_lt q_lt))
        (shift_untapped g.in_b w.reads_b (old_b t solved p_of q_of) _ (made_q p_of q_of p_lt q_lt))

  -- ---- k clocks

  pub good_clocks : (k : ℕ) (s : Lfsr) → IsLfsr s → IsLfsr (clocks t k s)
  unfolding clocks
  good_clocks zero s g = g
  good_clocks (suc k) s g = good_clock (clocks t k s) (good_clocks k s g)

  pub good_unclocks : (k : ℕ) (s : Lfsr) → IsLfsr s → IsLfsr (unclocks t solved k s)
  unfolding unclocks
  good_unclocks zero s g = g
  good_unclocks (suc k) s g = good_unclocks k (unclock t solved s) (good_unclock s g)

  pub unclocks_clocks : (k : ℕ) (s : Lfsr) → IsLfsr s → unclocks t solved k (clocks t k s) ≡ s
  unfolding clocks unclocks
  unclocks_clocks zero s g = refl
  unclocks_clocks (suc k) s g = ap (unclocks t solved k) (unclock_clock (clocks t k s) (good_clocks k s g)) ∙ unclocks_clocks k s g

  pub clocks_unclocks : (k : ℕ) (s : Lfsr) → IsLfsr s → clocks t k (unclocks t solved k s) ≡ s
  unfolding clocks unclocks
  clocks_unclocks zero s g = refl
  clocks_unclocks (suc k) s g = ap (clock t) (clocks_unclocks k (unclock t solved s) (good_unclock s g)) ∙ clock_unclock s g

  -- ---- the clock is one-to-one

  pub clock_one : (s u : Lfsr) → IsLfsr s → IsLfsr u → clock t s ≡ clock t u → s ≡ u
  clock_one s u g h e = sym (unclock_clock s g) ∙ ap (unclock t solved) e ∙ unclock_clock u h
