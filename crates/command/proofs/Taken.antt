-- What was read stands in the input: a line that is read is well formed, stands at the front of the input and has a byte 0a behind it, so that it
-- ends inside the input. Then four lines, one from the end of the other: where one is missing, or something is left, the input is malformed.
use mathlib.Core.Path.{◌≡◌, refl, sym, ap, ap₂, ◌∙◌}
use mathlib.Core.Bool.{Bool, true, false}
use mathlib.Core.List.{List, [], ◌∷◌, ◌++◌}
use Prim.Native.Nat.{ℕ, ◌+◌, ◌-◌, ◌≤◌, ◌<◌, min}
use native.Mathlib.Omega.{arith}
use borrow.Author.Tests.{eqb-true}
use lib.Dec.{eqb}
use lib.ListN.{length, take, drop, length-append, length-take, length-drop, drop_of_length-le}
use lib.Seq.{take_all, drop-drop}
use Rattle.scope.specs.Refusals.{pick}
use Rattle.command.specs.Lines.{Line, Line.ended, Line.no_line, Lines, Lines.four, Lines.malformed, behind, up_to_end, well_formed, checked, first_line, at_end, lines_in}
use Rattle.command.specs.Machine.{between}

-- ---- one line

by_rest : (b : ℕ) (s l r : List ℕ) (x : Line) → ((l' r' : List ℕ) → x ≡ ended l' r' → s ≡ l' ++ 0x0a ∷ r') → behind b x ≡ ended l r → b ∷ s ≡ l ++ 0x0a ∷ r
by_rest b s l r (ended l' r') ih e =
    let p : b ∷ l' ≡ l = cc in
    let q : r' ≡ r = cc in
    ap (λ (t : List ℕ). b ∷ t) (ih l' r' refl) ∙ ap₂ (λ (u v : List ℕ). u ++ 0x0a ∷ v) p q
by_rest b s l r no_line ih e = let z : ◌≡◌ {A = ℕ} 0 1 = cc in absurd (omega arith)

by_end : (b : ℕ) (s l r : List ℕ) (t : Bool) → eqb b 0x0a ≡ t → ((l' r' : List ℕ) → up_to_end s ≡ ended l' r' → s ≡ l' ++ 0x0a ∷ r')
    → pick t (ended [] s) (behind b (up_to_end s)) ≡ ended l r → b ∷ s ≡ l ++ 0x0a ∷ r
by_end b s l r true t ih e =
    let p : ◌≡◌ {A = List ℕ} [] l = cc in
    let q : s ≡ r = cc in
    ap (λ (k : ℕ). k ∷ s) (eqb-true b 0x0a t) ∙ ap₂ (λ (u v : List ℕ). u ++ 0x0a ∷ v) p q
by_end b s l r false t ih e = by_rest b s l r (up_to_end s) ih e

up_gives : (s l r : List ℕ) → up_to_end s ≡ ended l r → s ≡ l ++ 0x0a ∷ r
unfolding up_to_end
up_gives [] l r e = let z : ◌≡◌ {A = ℕ} 0 1 = cc in absurd (omega arith)
up_gives (b ∷ s) l r e = by_end b s l r (eqb b 0x0a) refl (up_gives s) e

pub record Taken (s l r : List ℕ) : Type 0 where
  pub formed : well_formed l ≡ true
  pub joined : s ≡ l ++ 0x0a ∷ r

by_form : (s l r l' r' : List ℕ) (t : Bool) → well_formed l' ≡ t → up_to_end s ≡ ended l' r' → pick t (ended l' r') no_line ≡ ended l r → Taken s l r
by_form s l r l' r' true w u e =
    let p : l' ≡ l = cc in
    let q : r' ≡ r = cc in
    record { formed = ap well_formed (sym p) ∙ w; joined = up_gives s l r (u ∙ e) }
by_form s l r l' r' false w u e = let z : ◌≡◌ {A = ℕ} 0 1 = cc in absurd (omega arith)

by_line : (s l r : List ℕ) (x : Line) → up_to_end s ≡ x → checked x ≡ ended l r → Taken s l r
by_line s l r (ended l' r') u e = by_form s l r l' r' (well_formed l') refl u e
by_line s l r no_line u e = let z : ◌≡◌ {A = ℕ} 0 1 = cc in absurd (omega arith)

pub taken : (s l r : List ℕ) → ended l r ≡ first_line s → Taken s l r
unfolding first_line
taken s l r e = by_line s l r (up_to_end s) refl (sym e)

-- ---- at a place of an input

-- what is left from a place on, as the code lends it
pub left_from : (s : List ℕ) (at : ℕ) → take (length s - at) (drop at s) ≡ drop at s
left_from s at = take_all (length s - at) (drop at s) (simp length-drop (omega arith))

-- a line of it, in the places of the whole
pub moved : (s : List ℕ) (at n : ℕ) → ended (between 0 n (drop at s)) (drop (n + 1) (drop at s)) ≡ ended (between at (at + n) s) (drop (at + n + 1) s)
moved s at n =
    let e : n - 0 ≡ at + n - at = omega arith in
    let f : at + (n + 1) ≡ at + n + 1 = omega arith in
    ap₂ (λ (u v : List ℕ). ended u v) (ap (λ (k : ℕ). take k (drop at s)) e) (drop-drop (n + 1) at s ∙ ap (λ (k : ℕ). drop k s) f)

-- a line that was read ends inside the input
module _ (s : List ℕ) (at e : ℕ) (h : ended (between at e s) (drop (e + 1) s) ≡ first_line (drop at s)) where
  count : length s - at ≡ min (e - at) (length s - at) + (1 + (length s - (e + 1)))
  count =
      let t : drop at s ≡ between at e s ++ 0x0a ∷ drop (e + 1) s = (taken (drop at s) (between at e s) (drop (e + 1) s) h).joined in
      let p : length (drop at s) ≡ length s - at = length-drop at s in
      let q : length (between at e s) ≡ min (e - at) (length s - at) = length-take (e - at) (drop at s) ∙ ap (min (e - at)) p in
      let r : length (drop (e + 1) s) ≡ length s - (e + 1) = length-drop (e + 1) s in
      sym p ∙ ap length t ∙ length-append (between at e s) (0x0a ∷ drop (e + 1) s) ∙ ap₂ ◌+◌ q (omega arith)

  pub inside : (at ≤ e) × (e < length s)
  inside = omega (arith, count)

-- ---- four lines

-- a line of an input from one place up to another
abbrev pub LineAt : List ℕ → ℕ → ℕ → Type 0
LineAt s at e = ended (between at e s) (drop (e + 1) s) ≡ first_line (drop at s)

module _ (s : List ℕ) where
  pub no_key : no_line ≡ first_line (drop 0 s) → malformed ≡ lines_in s
  unfolding lines_in
  no_key h = rw (← h)

  module _ (a : ℕ) (ka : LineAt s 0 a) where
    pub no_iv : no_line ≡ first_line (drop (a + 1) s) → malformed ≡ lines_in s
    unfolding lines_in
    no_iv h = rw (← ka, ← h)

    module _ (b : ℕ) (kb : LineAt s (a + 1) b) where
      pub no_ad : no_line ≡ first_line (drop (b + 1) s) → malformed ≡ lines_in s
      unfolding lines_in
      no_ad h = rw (← ka, ← kb, ← h)

      module _ (c : ℕ) (kc : LineAt s (b + 1) c) where
        pub no_text : no_line ≡ first_line (drop (c + 1) s) → malformed ≡ lines_in s
        unfolding lines_in
        no_text h = rw (← ka, ← kb, ← kc, ← h)

        module _ (d : ℕ) (kd : LineAt s (c + 1) d) where
          read : at_end (drop (d + 1) s) (four (between 0 a s) (between (a + 1) b s) (between (b + 1) c s) (between (c + 1) d s)) ≡ lines_in s
          unfolding lines_in
          read = rw (← ka, ← kb, ← kc, ← kd)

          not_end : (r : List ℕ) (l : Lines) → 0 < length r → malformed ≡ at_end r l
          not_end [] l h = absurd (omega arith)
          not_end (x ∷ r) l h = refl

          pub more : d + 1 < length s → malformed ≡ lines_in s
          more h = not_end (drop (d + 1) s) _ (simp length-drop (omega arith)) ∙ read

          pub whole : d + 1 ≡ length s → four (between 0 a s) (between (a + 1) b s) (between (b + 1) c s) (between (c + 1) d s) ≡ lines_in s
          whole h = ap (λ (r : List ℕ). at_end r (four (between 0 a s) (between (a + 1) b s) (between (b + 1) c s) (between (c + 1) d s))) (sym (drop_of_length-le s {i = d + 1} (omega arith))) ∙ read
