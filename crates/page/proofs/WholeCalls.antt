-- Each call on a session that a list of calls reaches, as a whole: its number, its output and the session handed back.
use mathlib.Core.Path.{◌≡◌, refl, ap, ◌∙◌}
use mathlib.Core.List.{List, [], ◌++◌}
use mathlib.Core.Bool.{not}
use Prim.Native.Nat.{ℕ, ◌+◌, ◌≤◌, ◌<◌}
use native.Mathlib.Nat.{zero-add}
use native.Mathlib.Omega.{arith}
use borrow.Author.Tests.{le-ltb, lt-ltb}
use lib.Dec.{ltb, lit<}
use lib.ListN.{length, drop}
use Rattle.scope.specs.Limits.{most_data, most_text}
use Rattle.scope.specs.Refusals.{refuse, out_of_phase, too_long, short_output}
use Rattle.start.proofs.Answers.{both_right}
use Rattle.session.specs.Session.{drawn_at}
use Rattle.session.proofs.Counts.{text_number_fits}
use Rattle.session.proofs.Numbers.{data_open, text_within, finish_accepted}
use Rattle.session.specs.Calls.{begin_call, data_number, data_call, text_number, text_call, finish_number, finished, finish_call}
use Rattle.page.specs.Page.{encrypted, page_tag}
use Rattle.page.proofs.Stages.{Stage, Stage.taking_data, Stage.taking_text, ad_of, text_of, phase_at, session_at, begun_at, data_at, closed_at, text_taken_at, text_out_at}
use Rattle.page.proofs.Tags.{tag_at}

phase_below : (g : Stage) → phase_at g < 2
unfolding phase_at
phase_below (taking_data d) = lit< tt
phase_below (taking_text d t) = lit< tt

module _ (key iv : List ℕ) where
  pub phase_open : (g : Stage) → (session_at key iv g).phase < 2
  unfolding session_at
  phase_open g = phase_below g

  pub begin_call_at : length key ≡ 32 → length iv ≡ 16
      → begin_call key iv ≡ record { number = 0; out = []; session = session_at key iv (taking_data []) }
  unfolding begin_call
  begin_call_at k v = rw (both_right key iv k v, begun_at key iv)

  -- ---- data

  module _ (d p : List ℕ) where
    pub data_number_at : length d + length p ≤ most_data → data_number (session_at key iv (taking_data d)) p ≡ 0
    unfolding data_number session_at phase_at
    data_number_at fits = rw (le-ltb most_data (length d + length p) fits)

    pub data_call_at : length d + length p ≤ most_data
        → data_call (session_at key iv (taking_data d)) p
        ≡ record { number = 0; out = []; session = session_at key iv (taking_data (d ++ p)) }
    unfolding data_call
    data_call_at fits = rw (data_number_at fits, data_at key iv d p)

  -- an accepted piece of data found the data open and kept to the limit
  pub data_accepted : (g : Stage) (p : List ℕ) → data_number (session_at key iv g) p ≡ 0
      → (g ≡ taking_data (ad_of g)) × (length (ad_of g) + length p ≤ most_data)
  unfolding session_at phase_at
  data_accepted (taking_data d) p n = (refl, (data_open (session_at key iv (taking_data d)) p n).1)
  data_accepted (taking_text d t) p n = absurd (let e = (data_open (session_at key iv (taking_text d t)) p n).0 in omega arith)

  -- ---- text

  module _ (g : Stage) (p out : List ℕ) where
    -- the count is that of the blocks drawn, so that no piece gets 9
    pub text_number_is : text_number (session_at key iv g) p out
        ≡ refuse (not (ltb (session_at key iv g).phase 2)) out_of_phase
        (refuse (ltb most_text (length (text_of g) + length p)) too_long (refuse (ltb (length out) (length p)) short_output 0))
    unfolding session_at
    text_number_is = text_number_fits (session_at key iv g) (zero-add (drawn_at (length (text_of g)))) p out

    pub text_number_at : length (text_of g) + length p ≤ most_text → length p ≤ length out → text_number (session_at key iv g) p out ≡ 0
    unfolding session_at
    text_number_at fits room =
        text_number_is
        ∙ rw (lt-ltb (phase_at g) 2 (phase_below g), le-ltb most_text (length (text_of g) + length p) fits, le-ltb (length out) (length p) room)

    pub text_call_at : length (text_of g) + length p ≤ most_text → length p ≤ length out
        → text_call (session_at key iv g) p out
        ≡ record {
          number = 0;
          out = encrypted key iv (length (text_of g)) p ++ drop (length p) out;
          session = session_at key iv (taking_text (ad_of g) (text_of g ++ p));
        }
    unfolding text_call
    text_call_at fits room =
        rw (
          text_number_at fits room,
          closed_at key iv g,
          text_taken_at key iv (ad_of g) (text_of g) p,
          text_out_at key iv (ad_of g) (text_of g) p,
        )

    -- an accepted piece of text kept to the limit and found room
    pub text_accepted : text_number (session_at key iv g) p out ≡ 0
        → (length (text_of g) + length p ≤ most_text) × (length p ≤ length out)
    unfolding session_at
    text_accepted n = let w = text_within (session_at key iv g) p out n in (w.0, w.1.1)

  -- ---- finish

  module _ (g : Stage) where
    pub finish_number_at : finish_number (session_at key iv g) ≡ 0
    unfolding finish_number session_at
    finish_number_at = rw (lt-ltb (phase_at g) 2 (phase_below g))

    pub finish_call_at : finish_call (session_at key iv g)
        ≡ record { number = 0; tag = page_tag key iv (ad_of g) (text_of g); iv = iv; session = finished (session_at key iv g) }
    unfolding session_at
    finish_call_at = finish_accepted (session_at key iv g) finish_number_at ∙ ap (λ (t : List ℕ). record { number = 0; tag = t; iv = iv; session = finished (session_at key iv g) }) (tag_at key iv g)
