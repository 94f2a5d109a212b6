-- The numbers of the calls by what they find.
use Rattle.std.specs.Prelude.{Result, Ok, Err}
use mathlib.Core.Path.{◌≡◌, sym, ◌∙◌}
use mathlib.Core.List.{List, ◌++◌}
use Prim.Native.Nat.{ℕ, suc, ◌+◌, ◌≤◌, ◌<◌}
use native.Mathlib.Omega.{arith}
use borrow.Author.Tests.{eqb-true, not-false, eq-eqb, ne_eqb, lt-ltb, le-ltb, ltb-false}
use mathlib.Core.Bool.{true, false, not}
use lib.Dec.{eqb, ltb, lit<}
use lib.ListN.{length, drop}
use Rattle.scope.specs.Limits.{most_data, most_text}
use Rattle.scope.specs.Refusals.{refuse, out_of_phase, too_long, count_too_high, short_output}
use Rattle.scope.specs.declared.Refusal.{Refusal}
use Rattle.scope.specs.Machine.{refusal_number}
use Rattle.scope.proofs.Refusing.{refuse_none}
use Rattle.scope.proofs.Refused.{refused}
use Rattle.words.specs.Bytes.{zeros}
use Rattle.session.specs.declared.Session as machine
use Rattle.session.specs.Session.{Session}
use Rattle.session.specs.Machine.{session_of, Says}
use Rattle.session.specs.Calls.{data_number, data_call, text_too_far, text_number, text_call, finish_number, finished, finish_call}
use Rattle.session.specs.Pieces.{data_taken, closed, text_taken, text_out, tag_of}

module _ (s : Session) (p : List ℕ) where
  pub data_late : ¬ (s.phase ≡ 0) → data_number s p ≡ 7
  unfolding data_number
  data_late h = rw (ne_eqb s.phase 0 h)

  pub data_over : s.phase ≡ 0 → most_data < s.ad + length p → data_number s p ≡ 3
  unfolding data_number
  data_over h k = rw (eq-eqb s.phase 0 h, lt-ltb most_data (s.ad + length p) k)

  pub data_fits : s.phase ≡ 0 → s.ad + length p ≤ most_data → data_number s p ≡ 0
  unfolding data_number
  data_fits h k = rw (eq-eqb s.phase 0 h, le-ltb most_data (s.ad + length p) k)

module _ (s : Session) (p out : List ℕ) where
  pub text_late : 2 ≤ s.phase → text_number s p out ≡ 7
  unfolding text_number
  text_late h = rw (le-ltb s.phase 2 h)

  pub text_over : s.phase < 2 → most_text < s.text + length p → text_number s p out ≡ 3
  unfolding text_number
  text_over h k = rw (lt-ltb s.phase 2 h, lt-ltb most_text (s.text + length p) k)

  pub text_far : s.phase < 2 → s.text + length p ≤ most_text → text_too_far s p ≡ true → text_number s p out ≡ 9
  unfolding text_number
  text_far h k f = rw (lt-ltb s.phase 2 h, le-ltb most_text (s.text + length p) k, f)

  pub text_short : s.phase < 2 → s.text + length p ≤ most_text → text_too_far s p ≡ false → length out < length p → text_number s p out ≡ 4
  unfolding text_number
  text_short h k f r = rw (lt-ltb s.phase 2 h, le-ltb most_text (s.text + length p) k, f, lt-ltb (length out) (length p) r)

  pub text_fits : s.phase < 2 → s.text + length p ≤ most_text → text_too_far s p ≡ false → length p ≤ length out → text_number s p out ≡ 0
  unfolding text_number
  text_fits h k f r = rw (lt-ltb s.phase 2 h, le-ltb most_text (s.text + length p) k, f, le-ltb (length out) (length p) r)

pub finish_late : (s : Session) → 2 ≤ s.phase → finish_number s ≡ 7
unfolding finish_number
finish_late s h = rw (le-ltb s.phase 2 h)

pub finish_due : (s : Session) → s.phase < 2 → finish_number s ≡ 0
unfolding finish_number
finish_due s h = rw (lt-ltb s.phase 2 h)

-- ---- what an accepted piece found

-- the data open, and room for it under the limit
pub data_open : (s : Session) (p : List ℕ) → data_number s p ≡ 0 → (s.phase ≡ 0) × (s.ad + length p ≤ most_data)
unfolding data_number
data_open s p n =
    let a = refuse_none (not (eqb s.phase 0)) out_of_phase (refuse (ltb most_data (s.ad + length p)) too_long 0) (lit< tt) n in
    let b = refuse_none (ltb most_data (s.ad + length p)) too_long 0 (lit< tt) a.1 in
    (eqb-true s.phase 0 (not-false (eqb s.phase 0) a.0), ltb-false most_data (s.ad + length p) b.0)

-- room for it under both limits and in the output
pub text_within : (s : Session) (p out : List ℕ) → text_number s p out ≡ 0
    → (s.text + length p ≤ most_text) × ((text_too_far s p ≡ false) × (length p ≤ length out))
unfolding text_number
text_within s p out n =
    let small = refuse (ltb (length out) (length p)) short_output 0 in
    let far = refuse (text_too_far s p) count_too_high small in
    let a = refuse_none (not (ltb s.phase 2)) out_of_phase (refuse (ltb most_text (s.text + length p)) too_long far) (lit< tt) n in
    let b = refuse_none (ltb most_text (s.text + length p)) too_long far (lit< tt) a.1 in
    let c = refuse_none (text_too_far s p) count_too_high small (lit< tt) b.1 in
    let d = refuse_none (ltb (length out) (length p)) short_output 0 (lit< tt) c.1 in
    (ltb-false most_text (s.text + length p) b.0, (c.0, ltb-false (length out) (length p) d.0))

-- ---- what the calls then give

module _ (s : Session) (p : List ℕ) where
  pub data_refused : (n : ℕ) → data_number s p ≡ suc n → (data_call s p).session ≡ s
  unfolding data_call
  data_refused n e = rw (e, ne_eqb (suc n) 0 (λ z. omega arith))

  pub data_accepted : data_number s p ≡ 0 → (data_call s p).session ≡ data_taken s p
  unfolding data_call
  data_accepted e = rw e

-- the two things that a text call ensures
abbrev pub Answered : (s : Session) (p out : List ℕ) → Result Unit Refusal → (after : machine.Session) → (written : List ℕ) → Type 0
Answered s p out r after written = Says (text_call s p out) r after × (written ≡ (text_call s p out).out)

module _ (s : machine.Session) (p out : List ℕ) where
  pub text_refused : (e : Refusal) → text_number (session_of s) p out ≡ refusal_number e → Answered (session_of s) p out (Err e) s out
  unfolding text_call
  text_refused e q =
      let h = ne_eqb (refusal_number e) 0 (refused e) in (record { number = sym q; session = rw (q, h) }, rw (q, h))

  pub text_accepted : (r : machine.Session) (written : List ℕ) → text_number (session_of s) p out ≡ 0 → session_of r ≡ text_taken (closed (session_of s)) p
      → written ≡ text_out (closed (session_of s)) p ++ drop (length p) out → Answered (session_of s) p out (Ok _) r written
  unfolding text_call
  text_accepted r written e er eo = (record { number = sym e; session = er ∙ rw e }, eo ∙ rw e)

module _ (s : Session) where
  pub finish_refused : finish_number s ≡ 7 → finish_call s ≡ record { number = 7; tag = zeros; iv = zeros; session = s }
  unfolding finish_call
  finish_refused e = rw e

  pub finish_accepted : finish_number s ≡ 0 → finish_call s ≡ record { number = 0; tag = tag_of s; iv = s.iv; session = finished s }
  unfolding finish_call
  finish_accepted e = rw e
