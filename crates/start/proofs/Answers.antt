-- The answers of start and trace by their lengths and counts, and the key put together from its halves.
use mathlib.Core.Path.{◌≡◌, refl, ap, ap₂, ◌∙◌}
use mathlib.Core.Bool.{Bool, true, false, not}
use mathlib.Core.List.{List, ◌++◌}
use Prim.Native.Nat.{ℕ, ◌≤◌, ◌<◌}
use native.Mathlib.Omega.{arith}
use borrow.Author.Tests.{eq-eqb, ne_eqb, eqb-true, ltb-false, lt-ltb, le-ltb}
use lib.Dec.{eqb, ltb}
use lib.ListN.{length, take, drop, length-drop, take-append-drop}
use lib.Seq.{take_all}
use Rattle.scope.specs.Limits.{most_blocks}
use Rattle.scope.specs.Refusals.{pick, refuse}
use Rattle.cipher.specs.Run.{backward, moves}
use Rattle.cipher.specs.State.{State}
use Rattle.start.specs.Start.{start_number}
use Rattle.start.specs.Leads.{Traced, Traced.refused}
use Rattle.start.specs.Trace.{loaded, unload, trace}
use Rattle.start.specs.Inner.{walk_number}

neither : (a b : Bool) → refuse (not a) 1 (refuse (not b) 2 0) ≡ 0 → (a ≡ true) × (b ≡ true)
neither true true e = (refl, refl)
neither true false e = absurd (omega arith)
neither false b e = absurd (omega arith)

module _ (key iv : List ℕ) where
  pub bad_key : ¬ (length key ≡ 32) → start_number key iv ≡ 1
  unfolding start_number
  bad_key h = rw (ne_eqb (length key) 32 h)

  pub bad_iv : length key ≡ 32 → ¬ (length iv ≡ 16) → start_number key iv ≡ 2
  unfolding start_number
  bad_iv h k = rw (eq-eqb (length key) 32 h, ne_eqb (length iv) 16 k)

  pub both_right : length key ≡ 32 → length iv ≡ 16 → start_number key iv ≡ 0
  unfolding start_number
  both_right h k = rw (eq-eqb (length key) 32 h, eq-eqb (length iv) 16 k)

  pub lengths_right : start_number key iv ≡ 0 → (length key ≡ 32) × (length iv ≡ 16)
  unfolding start_number
  lengths_right e =
      let n = neither (eqb (length key) 32) (eqb (length iv) 16) e in (eqb-true (length key) 32 n.0, eqb-true (length iv) 16 n.1)

pub key_whole : (key l h : List ℕ) → length key ≡ 32 → l ≡ take 16 (drop 0 key) → h ≡ take 16 (drop 16 key) → l ++ h ≡ key
key_whole key l h e p q =
    let r : take 16 (drop 16 key) ≡ drop 16 key = take_all 16 (drop 16 key) (simp length-drop (omega arith)) in
    ap₂ (λ (x y : List ℕ). x ++ y) p (q ∙ r) ∙ take-append-drop 16 key

pub iv_whole : (iv l : List ℕ) → length iv ≡ 16 → l ≡ take 16 (drop 0 iv) → l ≡ iv
iv_whole iv l e p = p ∙ take_all 16 iv (omega arith)

module _ (key : List ℕ) (n : ℕ) where
  pub walk_bad_key : ¬ (length key ≡ 32) → 1 ≡ walk_number key n
  unfolding walk_number
  walk_bad_key h = rw (ne_eqb (length key) 32 h)

  pub walk_too_far : length key ≡ 32 → most_blocks < n → 9 ≡ walk_number key n
  unfolding walk_number
  walk_too_far h k = rw (eq-eqb (length key) 32 h, lt-ltb most_blocks n k)

  pub walk_right : length key ≡ 32 → n ≤ most_blocks → 0 ≡ walk_number key n
  unfolding walk_number
  walk_right h k = rw (eq-eqb (length key) 32 h, le-ltb most_blocks n k)

  pub walkable : walk_number key n ≡ 0 → (length key ≡ 32) × (n ≤ most_blocks)
  unfolding walk_number
  walkable e = go (eqb (length key) 32) (ltb most_blocks n) refl refl e
    where
      go : (a b : Bool) → eqb (length key) 32 ≡ a → ltb most_blocks n ≡ b → refuse (not a) 1 (refuse b 9 0) ≡ 0 → (length key ≡ 32) × (n ≤ most_blocks)
      go true false p q z = (eqb-true (length key) 32 p, ltb-false most_blocks n q)
      go true true p q z = absurd (omega arith)
      go false b p q z = absurd (omega arith)

walk_first : (a b : Bool) (later : Traced) {r : ℕ} → r ≡ refuse (not a) 1 (refuse b 9 0) → ¬ (r ≡ 0)
    → refused r ≡ pick (not a) (refused 1) (pick b (refused 9) later)
walk_first true true later e h = ap refused e
walk_first true false later e h = absurd (h e)
walk_first false b later e h = ap refused e

module _ (s : State) (key : List ℕ) where
  abbrev n : ℕ
  n = s.count

  pub trace_refused : {r : ℕ} → r ≡ walk_number key n → ¬ (r ≡ 0) → refused r ≡ trace s key
  unfolding walk_number trace
  trace_refused e h = walk_first (eqb (length key) 32) (ltb most_blocks n) _ e h

  pub trace_bad_key : ¬ (length key ≡ 32) → refused 1 ≡ trace s key
  unfolding trace
  trace_bad_key h = rw (ne_eqb (length key) 32 h)

  pub trace_too_far : length key ≡ 32 → most_blocks < n → refused 9 ≡ trace s key
  unfolding trace
  trace_too_far h k = rw (eq-eqb (length key) 32 h, lt-ltb most_blocks n k)

  pub trace_walks : length key ≡ 32 → n ≤ most_blocks → unload key (loaded key (moves backward n s.registers)) ≡ trace s key
  unfolding trace
  trace_walks h k = rw (eq-eqb (length key) 32 h, le-ltb most_blocks n k)
