-- An input is read as four lines exactly when it is those four lines, each well formed and with a byte 0a behind it, and nothing else. So no
-- input of more than 32,772 bytes is read, and whoever has one byte more has enough to know.
use mathlib.Core.Path.{◌≡◌, refl, sym, ap, ◌∙◌}
use mathlib.Core.Bool.{Bool, true, false}
use mathlib.Core.List.{List, [], ◌∷◌, ◌++◌}
use Prim.Native.Nat.{ℕ, ◌+◌, ◌≤◌, ◌<◌}
use native.Mathlib.Omega.{arith}
use borrow.Author.Tests.{ltb-true, ltb-false}
use lib.Dec.{ltb}
use lib.ListN.{length, take, length-append, length-take}
use lib.Seq.{take_all}
use Rattle.command.specs.Lines.{Line, Line.ended, Line.no_line, Lines, Lines.four, Lines.malformed, well_formed, first_line, then, at_end, lines_in}
use Rattle.command.specs.Output.{answer_to, printed, output}
use Rattle.command.specs.Laws.{FourLines, ReadsFourLines}
use Rattle.command.proofs.Reading.{formed_short, formed_line}
use Rattle.command.proofs.Taken.{taken}

-- a line was read first
Then : Line → (List ℕ → List ℕ → Lines) → Lines → Type 0
Then x f q = (l : List ℕ) × (r : List ℕ) × (ended l r ≡ x) × (q ≡ f l r)

module _ (k v d t : List ℕ) where
  a_line : (x : Line) (f : List ℕ → List ℕ → Lines) → four k v d t ≡ then x f → Then x f (four k v d t)
  unfolding Then
  a_line (ended l r) f e = (l, r, refl, e)
  a_line no_line f e = let z : ◌≡◌ {A = ℕ} 0 1 = cc in absurd (omega arith)

  the_end : (k' v' d' t' r : List ℕ) → four k v d t ≡ at_end r (four k' v' d' t') → (k' ≡ k) × (v' ≡ v) × (d' ≡ d) × (t' ≡ t) × (r ≡ [])
  the_end k' v' d' t' [] e = (cc, cc, cc, cc, refl)
  the_end k' v' d' t' (b ∷ r) e = let z : ◌≡◌ {A = ℕ} 0 1 = cc in absurd (omega arith)

joined : (s a b c g k v d t k' v' d' t' : List ℕ) → k' ≡ k → v' ≡ v → d' ≡ d → t' ≡ t → g ≡ []
    → s ≡ k' ++ 0x0a ∷ a → a ≡ v' ++ 0x0a ∷ b → b ≡ d' ++ 0x0a ∷ c → c ≡ t' ++ 0x0a ∷ g
    → s ≡ k ++ 0x0a ∷ (v ++ 0x0a ∷ (d ++ 0x0a ∷ (t ++ 0x0a ∷ [])))
joined s a b c g k v d t k' v' d' t' ek ev ed et eg es ea eb ec = cc

pub read_as : (s k v d t : List ℕ) → four k v d t ≡ lines_in s → FourLines s k v d t
unfolding lines_in Then
read_as s k v d t e =
    let a = a_line k v d t (first_line s) _ e in
    let b = a_line k v d t (first_line a.1) _ a.3 in
    let c = a_line k v d t (first_line b.1) _ b.3 in
    let g = a_line k v d t (first_line c.1) _ c.3 in
    let z = the_end k v d t a.0 b.0 c.0 g.0 g.1 g.3 in
    let ta = taken s a.0 a.1 a.2 in
    let tb = taken a.1 b.0 b.1 b.2 in
    let tc = taken b.1 c.0 c.1 c.2 in
    let tg = taken c.1 g.0 g.1 g.2 in
    record {
      key = ap well_formed (sym z.0) ∙ ta.formed;
      iv = ap well_formed (sym z.1) ∙ tb.formed;
      ad = ap well_formed (sym z.2) ∙ tc.formed;
      text = ap well_formed (sym z.3) ∙ tg.formed;
      all = joined s a.1 b.1 c.1 g.1 k v d t a.0 b.0 c.0 g.0 z.0 z.1 z.2 z.3 z.4 ta.joined tb.joined tc.joined tg.joined;
    }

as_read : (s k v d t : List ℕ) → FourLines s k v d t → four k v d t ≡ lines_in s
unfolding lines_in
as_read s k v d t w =
    rw (w.all, ← formed_line k w.key (v ++ 0x0a ∷ (d ++ 0x0a ∷ (t ++ 0x0a ∷ []))), ← formed_line v w.iv (d ++ 0x0a ∷ (t ++ 0x0a ∷ [])), ← formed_line d w.ad (t ++ 0x0a ∷ []), ← formed_line t w.text [])

whole_length : (s k v d t : List ℕ) → FourLines s k v d t → length s ≤ 32772
whole_length s k v d t w =
    let e : length s ≡ length k + (1 + (length v + (1 + (length d + (1 + (length t + 1)))))) =
    ap length w.all ∙ simp length-append (omega arith) in
    omega (arith, formed_short k w.key, formed_short v w.iv, formed_short d w.ad, formed_short t w.text)

by_lines : (s : List ℕ) (x : Lines) → x ≡ lines_in s → 32772 < length s → lines_in s ≡ malformed
by_lines s (four k v d t) e h = absurd (omega (arith, whole_length s k v d t (read_as s k v d t e)))
by_lines s malformed e h = sym e

too_long : (s : List ℕ) → 32772 < length s → lines_in s ≡ malformed
too_long s h = by_lines s (lines_in s) refl h

-- the first 32,773 bytes of an input have the output of the whole
cut_off : (s : List ℕ) → output (take 32773 s) ≡ output s
unfolding output
cut_off s = by (ltb 32772 (length s)) refl
  where
    by : (b : Bool) → ltb 32772 (length s) ≡ b → printed (answer_to (lines_in (take 32773 s))) ≡ printed (answer_to (lines_in s))
    by true e =
        let h : 32772 < length s = ltb-true 32772 (length s) e in
        let k : 32772 < length (take 32773 s) = simp length-take (omega arith) in
        ap (λ (l : Lines). printed (answer_to l)) (too_long (take 32773 s) k ∙ sym (too_long s h))
    by false e = let h : length s ≤ 32772 = ltb-false 32772 (length s) e in ap (λ (l : List ℕ). printed (answer_to (lines_in l))) (take_all 32773 s (omega arith))

pub reads_four_lines : ReadsFourLines
reads_four_lines = record { read_as = λ s k v d t. (read_as s k v d t, as_read s k v d t); too_long = too_long; cut_off = cut_off }
