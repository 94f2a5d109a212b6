-- A session whose state's count is that of the blocks which its text has drawn: its text is full before the count, so that no piece gets 9, and its calls
-- keep it so. And of every session the steps that a piece takes.
use mathlib.Core.Path.{◌≡◌, refl, sym, ap, ap₂, ◌∙◌}
use mathlib.Core.Bool.{Bool, true, false, not}
use mathlib.Core.List.{List}
use Prim.Native.Nat.{ℕ, ◌+◌, ◌≤◌}
use native.Mathlib.Omega.{arith}
use borrow.Author.Tests.{ltb-false}
use lib.Dec.{eqb, ltb}
use lib.ListN.{length}
use Rattle.scope.specs.Limits.{most_text}
use Rattle.scope.specs.Refusals.{granted, refuse, out_of_phase, too_long, count_too_high, short_output}
use Rattle.cipher.specs.Run.{forward}
use Rattle.cipher.specs.State.{State, moved, steps_number}
use Rattle.cipher.specs.Laws.{steps, NoneRefused}
use Rattle.cipher.proofs.Counting.{goes_on, not_far}
use Rattle.cipher.proofs.CountedSteps.{none_of, as_run}
use Rattle.session.specs.Session.{Session, drawn_at, drawn_by}
use Rattle.session.specs.Pieces.{data_taken, closed, text_taken}
use Rattle.session.specs.Calls.{text_too_far, text_number, data_number, data_call, text_call, finish_number, finished, finish_call}
use Rattle.session.proofs.Numbers.{text_within}
use Rattle.session.proofs.Pieces.{text_count, text_moves, text_draws, closed_text, closed_state}

module _ (s : Session) (e : s.state.count ≡ drawn_at s.text) where
  near : (p : List ℕ) → s.text + length p ≤ most_text → text_too_far s p ≡ false
  near p fits =
      let k = drawn_by s.text (length p) in
      let c = s.state.count in
      not_far forward k c (goes_on k c (omega (arith, e, fits)))

  pub text_number_fits : (p out : List ℕ) → text_number s p out
      ≡ refuse (not (ltb s.phase 2)) out_of_phase
      (refuse (ltb most_text (s.text + length p)) too_long (refuse (ltb (length out) (length p)) short_output 0))
  unfolding text_number
  text_number_fits p out = go (ltb most_text (s.text + length p)) refl
    where
      go : (b : Bool) → ltb most_text (s.text + length p) ≡ b
          → refuse (not (ltb s.phase 2)) out_of_phase
          (refuse (ltb most_text (s.text + length p)) too_long
          (refuse (text_too_far s p) count_too_high (refuse (ltb (length out) (length p)) short_output 0)))
          ≡ refuse (not (ltb s.phase 2)) out_of_phase
          (refuse (ltb most_text (s.text + length p)) too_long (refuse (ltb (length out) (length p)) short_output 0))
      go true f = rw f
      go false f = rw (f, near p (ltb-false most_text (s.text + length p) f))

  -- what either of two sessions is, so is the one that a call hands back
  given : (n : ℕ) (u : Session) → u.state.count ≡ drawn_at u.text → (granted n u s).state.count ≡ drawn_at (granted n u s).text
  given n u f = go (eqb n 0) refl
    where
      go : (b : Bool) → eqb n 0 ≡ b → (granted n u s).state.count ≡ drawn_at (granted n u s).text
      go true z = rw z f
      go false z = rw z e

  pub data_fits : (p : List ℕ) → (data_call s p).session.state.count ≡ drawn_at (data_call s p).session.text
  unfolding data_call data_taken
  data_fits p = given (data_number s p) (data_taken s p) e

  pub text_fits : (p out : List ℕ) → (text_call s p out).session.state.count ≡ drawn_at (text_call s p out).session.text
  unfolding text_call
  text_fits p out =
      let c = text_draws (closed s) p in
      let n = text_count (closed s) p in
      let t = closed_text s in
      let r = ap (λ (u : State). u.count) (closed_state s) in
      given (text_number s p out) (text_taken (closed s) p) (counts (closed s).text (length p) (c ∙ ap (λ (k : ℕ). k + drawn_by (closed s).text (length p)) (r ∙ e ∙ ap drawn_at (sym t))) n)
    where
      counts : {c u : ℕ} (t n : ℕ) → c ≡ drawn_at t + drawn_by t n → u ≡ t + n → c ≡ drawn_at u
      counts t n f g = rw (f, g) (omega arith)

  pub finish_fits : (finish_call s).session.state.count ≡ drawn_at (finish_call s).session.text
  unfolding finish_call finished
  finish_fits = given (finish_number s) (finished s) e

-- of every session: an accepted piece takes as many steps as were tested, none of them refused
module _ (s : Session) (p out : List ℕ) (e : (text_call s p out).number ≡ 0) where
  abbrev n : ℕ
  n = drawn_by s.text (length p)

  counts : steps_number forward n s.state.count ≡ 0
  unfolding text_call steps_number
  counts = ap (λ (f : Bool). refuse f count_too_high 0) (text_within s p out e).1.0

  pub text_none_refused : NoneRefused forward n s.state
  text_none_refused = none_of forward n s.state counts

  pub text_steps : (text_call s p out).session.state ≡ steps forward n s.state
  unfolding text_call
  text_steps =
      ap (λ (k : ℕ). (granted k (text_taken (closed s) p) s).state) e
      ∙ text_moves (closed s) p
      ∙ ap₂ (λ (t : ℕ) (u : State). moved forward (drawn_by t (length p)) u) (closed_text s) (closed_state s)
      ∙ sym (as_run forward n s.state text_none_refused)
