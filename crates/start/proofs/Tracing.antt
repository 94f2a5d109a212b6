-- Trace finds an IV and mode exactly when they lead to the state, and 6 exactly when none do: n steps back are undone by n steps forward, and
-- a start's undoing by the start. So a state at a count names one IV and mode, and two starts that differ in either never meet.
use mathlib.Core.Path.{◌≡◌, refl, sym, ap, ◌∙◌}
use mathlib.Core.Bool.{Bool, true, false}
use mathlib.Core.List.{List}
use Prim.Native.Nat.{ℕ, ◌≤◌, ◌<◌}
use native.Mathlib.Omega.{arith}
use native.Mathlib.Nat.{lt_irrefl, lt_of_le_of_lt}
use native.Mathlib.Decide.{dec_lt}
use borrow.Author.Tests.{eqb-true, eqb-false}
use lib.Dec.{eqb}
use lib.ListN.{length}
use Rattle.scope.specs.Limits.{most_blocks}
use Rattle.words.specs.Bytes.{Row}
use Rattle.words.proofs.Rows.{Below}
use Rattle.cipher.specs.Registers.{Registers, IsRegisters}
use Rattle.cipher.specs.State.{State}
use Rattle.cipher.specs.Run.{forward, backward, moves}
use Rattle.cipher.proofs.Moves.{moves_good, moves_undone}
use Rattle.start.specs.Start.{Mode, start}
use Rattle.start.specs.Leads.{LeadsTo, Traced, Traced.origin, Traced.refused, Traces}
use Rattle.start.specs.Laws.{OneOrigin}
use Rattle.start.specs.Trace.{loaded, unload, trace}
use Rattle.start.proofs.Answers.{trace_bad_key, trace_too_far, trace_walks}
use Rattle.start.proofs.Undo.{start_good, loaded_start, loaded_good, start_loaded}
use Rattle.start.proofs.Unloading.{unload_load, Loads, unload_loads, unload_six, refused_six}

origin_one : (a : Traced) (iv iv' : List ℕ) (m m' : Mode) → a ≡ origin iv m → a ≡ origin iv' m' → (iv ≡ iv') × (m ≡ m')
origin_one a iv iv' m m' p q = (cc, cc)

never_both : (a : Traced) (iv : List ℕ) (m : Mode) (n : ℕ) → a ≡ origin iv m → a ≡ refused n → ⊥
never_both a iv m n p q = let e : ◌≡◌ {A = ℕ} 0 1 = cc in omega arith

module _ (key : List ℕ) (k : Row 32 256 key) (n : ℕ) where
  -- what the walk back finds
  walked : Registers → Traced
  walked s = unload key (loaded key (moves backward n s))

  leads_walked : {iv : List ℕ} {m : Mode} {s : Registers} → LeadsTo key n iv m s → walked s ≡ origin iv m
  unfolding walked
  leads_walked {iv} {m} {s} l =
      ap (λ (t : Registers). unload key (loaded key (moves backward n t))) (sym l.arrives)
      ∙ ap (λ (t : Registers). unload key (loaded key t)) (moves_undone forward n (start key iv m) (start_good key k iv m l.iv_block))
      ∙ ap (unload key) (loaded_start key k iv m l.iv_block)
      ∙ unload_load key k iv l.iv_block m

  walked_leads : (s : Registers) → IsRegisters s → (iv : List ℕ) (m : Mode) → walked s ≡ origin iv m → LeadsTo key n iv m s
  unfolding walked
  walked_leads s g iv m e =
      let h : IsRegisters (moves backward n s) = moves_good backward n s g in
      let f : Loads key k (loaded key (moves backward n s)) iv m = unload_loads key k (loaded key (moves backward n s)) iv m (loaded_good key k (moves backward n s) h) e in
      record {
        iv_block = f.iv_block;
        arrives = ap (moves forward n) (start_loaded key k iv m (moves backward n s) h f.is) ∙ moves_undone backward n s g;
      }

  -- a state at a count has one IV and mode
  pub leads_one : {iv iv' : List ℕ} {m m' : Mode} {s : Registers} → LeadsTo key n iv m s → LeadsTo key n iv' m' s → (iv ≡ iv') × (m ≡ m')
  leads_one {iv} {iv'} {m} {m'} {s} p q = origin_one (walked s) iv iv' m m' (leads_walked p) (leads_walked q)

pub one_origin : OneOrigin
one_origin key k n s iv iv' m m' p q = leads_one key k n p q

-- ---- what trace answers

refused_one : (a : Traced) (i j : ℕ) → a ≡ refused i → a ≡ refused j → i ≡ j
refused_one a i j p q = cc

module _ (s : State) (g : IsRegisters s.registers) (key : List ℕ) where
  abbrev n : ℕ
  n = s.count

  abbrev r : Registers
  r = s.registers

  a : Traced
  a = trace s key

  module _ {i : ℕ} (e : a ≡ refused i) where
    not_number : (j : ℕ) → ¬ (i ≡ j) → ¬ (a ≡ refused j)
    not_number j h f = h (refused_one a i j e f)

    not_found : (iv : List ℕ) (m : Mode) → ¬ (a ≡ origin iv m)
    not_found iv m f = never_both a iv m i f e

  wrong : ¬ (length key ≡ 32) → Traces s key a
  unfolding a
  wrong h =
      let e = sym (trace_bad_key s key h) in
      record {
        wrong_key = (λ f. h, λ f. e);
        too_far = (λ f. absurd (not_number e 9 (omega arith) f), λ f. absurd (h f.0));
        found = λ iv m. (λ f. absurd (not_found e iv m f), λ f. absurd (h f.0.0));
        none = (λ f. absurd (not_number e 6 (omega arith) f), λ f. absurd (h f.0.0));
      }

  far : length key ≡ 32 → most_blocks < n → Traces s key a
  unfolding a
  far h k =
      let e = sym (trace_too_far s key h k) in
      record {
        wrong_key = (λ f. absurd (not_number e 1 (omega arith) f), λ f. absurd (f h));
        too_far = (λ f. (h, k), λ f. e);
        found = λ iv m. (λ f. absurd (not_found e iv m f), λ f. absurd (lt_irrefl n (lt_of_le_of_lt f.0.1 k)));
        none = (λ f. absurd (not_number e 6 (omega arith) f), λ f. absurd (lt_irrefl n (lt_of_le_of_lt f.0.1 k)));
      }

  walks : (k : Row 32 256 key) → n ≤ most_blocks → Traces s key a
  unfolding a walked
  walks k fits =
      let e : trace s key ≡ walked key k n r = sym (trace_walks s key k.long fits) in
      let six : (i : ℕ) → a ≡ refused i → i ≡ 6 = λ i f. refused_six key k (loaded key (moves backward n r)) i (sym e ∙ f) in
      record {
        wrong_key = (λ f. absurd (let z = six 1 f in omega arith), λ f. absurd (f k.long));
        too_far = (λ f. absurd (let z = six 9 f in omega arith), λ f. absurd (lt_irrefl n (lt_of_le_of_lt fits f.1)));
        found = λ iv m. (λ f. ((k.long, fits), walked_leads key k n r g iv m (sym e ∙ f)), λ f. e ∙ leads_walked key k n f.1);
        none = (
          λ f. ((k.long, fits), λ iv m l. never_both a iv m 6 (e ∙ leads_walked key k n l) f),
          λ f. e ∙ unload_six key k (loaded key (moves backward n r)) (λ iv m h. f.1 iv m (walked_leads key k n r g iv m h)),
        );
      }

  -- of every state and every key
  pub traces : Below 256 key → Traces s key (trace s key)
  unfolding a
  traces k = by (eqb (length key) 32) refl
    where
      count : length key ≡ 32 → Traces s key (trace s key)
      count h = elim (dec_lt most_blocks n) [ yes q ↦ far h q | no q ↦ let fits : n ≤ most_blocks = omega arith in walks (record { long = h; below = k }) fits ]

      by : (b : Bool) → eqb (length key) 32 ≡ b → Traces s key (trace s key)
      by true e = count (eqb-true (length key) 32 e)
      by false e = wrong (eqb-false (length key) 32 e)
