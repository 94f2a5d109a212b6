-- Up to eight clocks at once: each register drops as many cells, and each new cell is made of cells that were there before, since the taps
-- reach no further than cell 8. A loop that fills the two halves of a register cell by cell makes the eight clocks.
use mathlib.Core.Path.{◌≡◌, refl, sym, ap, ap₂, subst, ◌∙◌}
use mathlib.Core.List.{List, [], ◌∷◌, ◌++◌, append_assoc, append-nil}
use mathlib.Core.Logic.{⊎_elim}
use Prim.Native.Nat.{ℕ, zero, suc, ◌+◌, ◌-◌, ◌<◌, ◌≤◌}
use native.Mathlib.Omega.{arith}
use native.Mathlib.Numerals.{add-one}
use native.Mathlib.Nat.{add-zero, add_comm, eq-or-lt_of_le, le_of_suc-le-suc}
use native.Mathlib.Decide.{dec_lt}
use lib.ListN.{length, get_or, take, drop, length-drop, length-append, get_or-append}
use lib.Seq.{get_or-drop, drop-drop, drop-append-le, take_at, ext_get_or, get_or-append-add, get_or_at}
use Rattle.words.specs.Xor.{◌⊕◌}
use Rattle.lfsr.specs.Clock.{Lfsr, Taps, cell, shift, clock, clocks}
use Rattle.lfsr.proofs.Shift.{Near, Reads}
use Rattle.lfsr.proofs.Back.{Lawful, mk}

-- f 0, f 1 and so on up to f (n - 1)
abbrev pub listed : ℕ → (ℕ → ℕ) → List ℕ
listed zero f = []
listed (suc n) f = listed n f ++ (f n ∷ [])

-- the cell that clock number i makes, of the cells of its own register and of the other's at the start
abbrev pub made : (ℕ → ℕ) → ((ℕ → ℕ) → ℕ) → (own other : List ℕ) → ℕ → ℕ
made root tap own other i = (cell other i ⊕ root (cell own i)) ⊕ tap (λ j. cell own (i + j))

abbrev pub made_a : Taps → (a b : List ℕ) → ℕ → ℕ
made_a t a b = made t.alpha t.tap_a a b

abbrev pub made_b : Taps → (a b : List ℕ) → ℕ → ℕ
made_b t a b = made t.beta t.tap_b b a

-- ---- one register, k cells of which have gone

module _ (l u : List ℕ) (e : length l ≡ 16) (k : ℕ) where
  here : (j : ℕ) → k + j < 16 → cell (drop k l ++ u) j ≡ cell l (k + j)
  here j h = get_or-append (drop k l) u 0 j (omega (arith, length-drop k l)) ∙ get_or-drop k l j 0

  here0 : k < 8 → cell (drop k l ++ u) 0 ≡ cell l k
  here0 h = here 0 (omega arith) ∙ ap (cell l) (add-zero k)

  near : k < 8 → Near (cell (drop k l ++ u)) (λ j. cell l (k + j))
  near h j p q = here j (omega arith)

  -- one more goes, and one comes
  grown : (x y : ℕ) → k < 8 → x ≡ y → shift (drop k l ++ u) x ≡ drop (suc k) l ++ (u ++ (y ∷ []))
  grown x y h q =
      ap₂ (λ (r : List ℕ) (z : ℕ). r ++ (z ∷ []))
      (drop-append-le 1 (drop k l) u (omega (arith, length-drop k l))
      ∙ ap (λ (r : List ℕ). r ++ u) (drop-drop 1 k l ∙ ap (λ (i : ℕ). drop i l) (add-one k)))
      q
      ∙ append_assoc (drop (suc k) l) u (y ∷ [])

-- the new cell is the one that `made` says
fresh : {tap : (ℕ → ℕ) → ℕ} → Reads tap → (root : ℕ → ℕ) (l m u v : List ℕ) → length l ≡ 16 → length m ≡ 16 → (k : ℕ) → k < 8
    → (cell (drop k m ++ v) 0 ⊕ root (cell (drop k l ++ u) 0)) ⊕ tap (cell (drop k l ++ u)) ≡ made root tap l m k
fresh n root l m u v el em k h =
    ap₂ ◌⊕◌ (ap₂ (λ (x y : ℕ). y ⊕ root x) (here0 l u el k h) (here0 m v em k h)) (n.near _ _ (near l u el k h))

-- ---- both

module _ {t : Taps} {solved : ℕ → ℕ} (w : Lawful t solved) (a b : List ℕ) (ea : length a ≡ 16) (eb : length b ≡ 16) where
  step : (k : ℕ) → k < 8 → (u v : List ℕ)
      → clock t (mk (drop k a ++ u) (drop k b ++ v)) ≡ mk (drop (suc k) a ++ (u ++ (made_a t a b k ∷ []))) (drop (suc k) b ++ (v ++ (made_b t a b k ∷ [])))
  unfolding clock
  step k h u v =
      ap₂ mk (grown a u ea k _ _ h (fresh w.reads_a t.alpha a b u v ea eb k h)) (grown b v eb k _ _ h (fresh w.reads_b t.beta b a v u eb ea k h))

  pub window : (k : ℕ) → k ≤ 8 → clocks t k (mk a b) ≡ mk (drop k a ++ listed k (made_a t a b)) (drop k b ++ listed k (made_b t a b))
  unfolding clocks
  window zero h = ap₂ mk (sym (append-nil a)) (sym (append-nil b))
  window (suc k) h = ap (clock t) (window k (omega arith)) ∙ step k h (listed k (made_a t a b)) (listed k (made_b t a b))

  pub window_a : take 8 (clocks t 8 (mk a b)).a ≡ drop 8 a
  window_a =
      ap (λ (s : Lfsr). take 8 s.a) (window 8 (omega arith))
      ∙ take_at (drop 8 a) (listed 8 (made_a t a b)) 8 (length-drop 8 a ∙ ap (λ (n : ℕ). n - 8) ea)

  pub window_b : take 8 (clocks t 8 (mk a b)).b ≡ drop 8 b
  window_b =
      ap (λ (s : Lfsr). take 8 s.b) (window 8 (omega arith))
      ∙ take_at (drop 8 b) (listed 8 (made_b t a b)) 8 (length-drop 8 b ∙ ap (λ (n : ℕ). n - 8) eb)

-- ---- a register whose halves are filled cell by cell

length_listed : (n : ℕ) (f : ℕ → ℕ) → length (listed n f) ≡ n
length_listed zero f = refl
length_listed (suc n) f = length-append (listed n f) (f n ∷ []) ∙ add-one _ ∙ ap suc (length_listed n f)

get_d_listed : (n : ℕ) (f : ℕ → ℕ) (i : ℕ) → i < n → get_or (listed n f) i 0 ≡ f i
get_d_listed zero f i h = absurd (omega arith)
get_d_listed (suc n) f i h =
    ⊎_elim
    (λ e. ap (λ (j : ℕ). get_or (listed n f ++ (f n ∷ [])) j 0) e ∙ get_or_at (listed n f) (f n) [] 0 n (length_listed n f) ∙ ap f (sym e))
    (λ l. get_or-append (listed n f) (f n ∷ []) 0 i (omega (arith, length_listed n f)) ∙ get_d_listed n f i l)
    (eq-or-lt_of_le (le_of_suc-le-suc h))

-- sixteen cells of which the first n of each half are known
pub record Filled (f g : ℕ → ℕ) (n : ℕ) (l : List ℕ) : Type 0 where
  pub long : length l ≡ 16
  pub low : (k : ℕ) → k < n → get_or l k 0 ≡ f k
  pub high : (k : ℕ) → k < n → get_or l (k + 8) 0 ≡ g k

filled_all : (a l : List ℕ) (g : ℕ → ℕ) → length a ≡ 16 → Filled (λ k. cell a (k + 8)) g 8 l → l ≡ drop 8 a ++ listed 8 g
filled_all a l g ea p =
    ext_get_or 0 l (drop 8 a ++ listed 8 g) (omega (arith, p.long, length-append (drop 8 a) (listed 8 g), length-drop 8 a, length_listed 8 g))
    (λ i h. elim (dec_lt i 8) [ yes q ↦ low i q | no q ↦ subst (λ (m : ℕ). get_or l m 0 ≡ get_or (drop 8 a ++ listed 8 g) m 0) (sum i q) (high (i - 8) (omega (arith, p.long))) ])
  where
    low : (i : ℕ) → i < 8 → get_or l i 0 ≡ get_or (drop 8 a ++ listed 8 g) i 0
    low i q = p.low i q ∙ ap (cell a) (add_comm i 8) ∙ sym (here a (listed 8 g) ea 8 i (omega arith))

    high : (j : ℕ) → j < 8 → get_or l (j + 8) 0 ≡ get_or (drop 8 a ++ listed 8 g) (j + 8) 0
    high j q =
        let e : j + 8 ≡ length (drop 8 a) + j = omega (arith, length-drop 8 a) in
        p.high j q ∙ sym (get_d_listed 8 g j q) ∙ sym (ap (λ (m : ℕ). get_or (drop 8 a ++ listed 8 g) m 0) e ∙ get_or-append-add (drop 8 a) (listed 8 g) j 0)

    sum : (i : ℕ) → ¬ (i < 8) → i - 8 + 8 ≡ i
    sum i q = omega arith

-- ---- both registers, as a loop of eight turns fills them

pub record Turn (t : Taps) (sa sb : List ℕ) (i : ℕ) (a b : List ℕ) : Type 0 where
  pub in_a : Filled (λ k. cell sa (k + 8)) (made_a t sa sb) i a
  pub in_b : Filled (λ k. cell sb (k + 8)) (made_b t sa sb) i b

module _ {t : Taps} {solved : ℕ → ℕ} (w : Lawful t solved) (sa sb : List ℕ) (ea : length sa ≡ 16) (eb : length sb ≡ 16) (a b : List ℕ) where
  pub filled_clocks : Filled (λ k. cell sa (k + 8)) (made_a t sa sb) 8 a → Filled (λ k. cell sb (k + 8)) (made_b t sa sb) 8 b
      → mk a b ≡ clocks t 8 (mk sa sb)
  filled_clocks p q =
      ap₂ mk (filled_all sa a (made_a t sa sb) ea p) (filled_all sb b (made_b t sa sb) eb q) ∙ sym (window w sa sb ea eb 8 (omega arith))

  pub turn_all : Turn t sa sb 8 a b → mk a b ≡ clocks t 8 (mk sa sb)
  turn_all p = filled_clocks p.in_a p.in_b
