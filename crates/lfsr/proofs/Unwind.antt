-- Eight clocks back, a cell of each register at a time, from the highest: what is found are cells that eight clocks take to the given state,
-- and only one state is taken there.
use mathlib.Core.Path.{◌≡◌, sym, ap, ap₂, subst, ◌∙◌}
use mathlib.Core.List.{List, ◌++◌}
use mathlib.Core.Logic.{⊎_elim}
use Prim.Native.Nat.{ℕ, ◌+◌, ◌^◌, ◌<◌, ◌≤◌}
use native.Mathlib.Omega.{arith}
use native.Mathlib.Nat.{eq-or-lt_of_le}
use native.Mathlib.Numerals.{add_eight}
use lib.Dec.{lit<}
use lib.ListN.{set, take, replicate}
use lib.Seq.{get_or-set_same, get_or-set_other, get_or-take}
use Rattle.words.specs.Xor.{◌⊕◌}
use Rattle.words.proofs.XorLaws.{⊕-lt, ⊕-twice}
use Rattle.words.proofs.Rows.{row_take, row_append, row_set, zeros_row}
use Rattle.lfsr.specs.Clock.{Lfsr, Taps, IsLfsr, cell}
use Rattle.lfsr.specs.Unclock.{old_a, old_b, unclocks}
use Rattle.lfsr.proofs.Shift.{Reads, Register}
use Rattle.lfsr.proofs.Back.{Lawful, mk, made_p, made_q, old_a_lt, old_b_lt, unclocks_clocks}
use Rattle.lfsr.proofs.Window.{made, Filled, filled_clocks}

-- ---- one register: from i on, its cells are those that eight clocks take to s

pub record Half (root : ℕ → ℕ) (tap : (ℕ → ℕ) → ℕ) (s : List ℕ) (i : ℕ) (own other : List ℕ) : Type 0 where
  pub cells : Register own
  pub low : (k : ℕ) → k < 8 → cell s k ≡ cell own (k + 8)
  pub high : (k : ℕ) → i ≤ k → k < 8 → cell s (k + 8) ≡ made root tap own other k

-- cells 0 to 7 in places 8 to 15, and zeros below
abbrev pub raised : List ℕ → List ℕ
raised l = replicate 8 0 ++ take 8 l

raised_register : (l : List ℕ) → Register l → Register (raised l)
raised_register l r =
    row_append 65536 8 8 (zeros_row 8 65536 (lit< tt)) (row_take 65536 16 r 8 (lit< tt) (omega arith))

raised_at : (l : List ℕ) (k : ℕ) → k < 8 → cell l k ≡ cell (raised l) (k + 8)
raised_at l k h = sym (get_or-take 8 l k 0 h) ∙ ap (cell (raised l)) (sym (add_eight k))

module _ {root : ℕ → ℕ} {tap : (ℕ → ℕ) → ℕ} (n : Reads tap) (s : List ℕ) where
  half_none : (other : List ℕ) → Register s → Half root tap s 8 (raised s) other
  half_none other r = record { cells = raised_register s r; low = raised_at s; high = λ k p q. absurd (omega arith) }

  half_filled : {own other : List ℕ} → Register s → Half root tap s 0 own other → Filled (λ k. cell own (k + 8)) (made root tap own other) 8 s
  half_filled r u = record { long = r.long; low = u.low; high = λ k h. u.high k (omega arith) h }

  -- x and y become cells i of the register and of the other one
  module _ {i : ℕ} {own other : List ℕ} (h : i < 8) (u : Half root tap s (i + 1) own other) (r : Register other) (x y : ℕ) where
    -- what the tap reads from cell k on is as it was
    tapped : (k : ℕ) → i ≤ k → tap (λ j. cell own (k + j)) ≡ tap (λ j. cell (set own i x) (k + j))
    tapped k p = n.near _ _ (λ j l m. sym (get_or-set_other own i (k + j) x 0 (omega arith)))

    at : cell (set own i x) i ≡ x
    at = get_or-set_same own i x 0 (omega (arith, u.cells.long))

    at_other : cell (set other i y) i ≡ y
    at_other = get_or-set_same other i y 0 (omega (arith, r.long))

    kept : (l : List ℕ) (z k : ℕ) → i < k → cell l k ≡ cell (set l i z) k
    kept l z k p = sym (get_or-set_other l i k z 0 (omega arith))

    half_more : x < 2 ^ 16 → y ⊕ root x ≡ cell s (i + 8) ⊕ tap (λ j. cell own (i + j)) → Half root tap s i (set own i x) (set other i y)
    half_more hx e =
        let here : cell s (i + 8) ≡ made root tap (set own i x) (set other i y) i
        = ⊕-twice (cell s (i + 8)) (tap (λ j. cell own (i + j)))
        ∙ ap₂ ◌⊕◌ (sym (ap₂ (λ (p q : ℕ). q ⊕ root p) at at_other ∙ e)) (tapped i (omega arith)) in
        record {
          cells = row_set 16 65536 i x hx u.cells;
          low = λ k q. u.low k q ∙ kept own x (k + 8) (omega arith);
          high = λ k p q. ⊎_elim (λ e. subst (λ (j : ℕ). cell s (j + 8) ≡ made root tap (set own i x) (set other i y) j) e here)
              (λ l. u.high k (omega arith) q ∙ ap₂ ◌⊕◌ (ap₂ (λ (p q : ℕ). q ⊕ root p) (kept own x k l) (kept other y k l)) (tapped k p)) (eq-or-lt_of_le p);
        }

-- ---- both

pub record Undone (t : Taps) (sa sb : List ℕ) (i : ℕ) (a b : List ℕ) : Type 0 where
  pub at_most : i ≤ 8
  pub in_a : Half t.alpha t.tap_a sa i a b
  pub in_b : Half t.beta t.tap_b sb i b a

module _ {t : Taps} {solved : ℕ → ℕ} (w : Lawful t solved) (s : Lfsr) (g : IsLfsr s) where
  pub undone_none : Undone t s.a s.b 8 (raised s.a) (raised s.b)
  undone_none =
      record { at_most = omega arith; in_a = half_none w.reads_a s.a _ g.in_a; in_b = half_none w.reads_b s.b _ g.in_b }

  pub undone_all : (a b : List ℕ) → Undone t s.a s.b 0 a b → mk a b ≡ unclocks t solved 8 s
  undone_all a b u =
      sym (unclocks_clocks w 8 (mk a b) (record { in_a = u.in_a.cells; in_b = u.in_b.cells }))
      ∙ ap (unclocks t solved 8)
      (sym (filled_clocks w a b u.in_a.cells.long u.in_b.cells.long s.a s.b
      (half_filled w.reads_a s.a g.in_a u.in_a) (half_filled w.reads_b s.b g.in_b u.in_b)))

  -- a turn
  module _ (i : ℕ) (a b : List ℕ) (h : i < 8) (u : Undone t s.a s.b (i + 1) a b) where
    abbrev pub p_at : ℕ
    p_at = cell s.a (i + 8) ⊕ t.tap_a (λ j. cell a (i + j))

    abbrev pub q_at : ℕ
    q_at = cell s.b (i + 8) ⊕ t.tap_b (λ j. cell b (i + j))

    p_lt : p_at < 2 ^ 16
    p_lt = ⊕-lt 16 _ _ (g.in_a.below (i + 8)) (w.reads_a.keeps _ (λ j. u.in_a.cells.below (i + j)))

    q_lt : q_at < 2 ^ 16
    q_lt = ⊕-lt 16 _ _ (g.in_b.below (i + 8)) (w.reads_b.keeps _ (λ j. u.in_b.cells.below (i + j)))

    pub undone_more : (x y : ℕ) → x ≡ old_a t solved p_at q_at → y ≡ old_b t solved p_at q_at → Undone t s.a s.b i (set a i x) (set b i y)
    undone_more x y ex ey =
        record {
          at_most = omega arith;
          in_a = half_more w.reads_a s.a h u.in_a u.in_b.cells x y (rw ex (old_a_lt w p_at q_at p_lt q_lt))
              (ap₂ (λ (x y : ℕ). y ⊕ t.alpha x) ex ey ∙ made_p w p_at q_at p_lt q_lt);
          in_b = half_more w.reads_b s.b h u.in_b u.in_a.cells y x (rw ey (old_b_lt w p_at q_at p_lt q_lt))
              (ap₂ (λ (x y : ℕ). x ⊕ t.beta y) ex ey ∙ made_q w p_at q_at p_lt q_lt);
        }
