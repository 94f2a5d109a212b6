-- A session whose parts have their sizes has bytes that list it, so that a call for C on them is the call on it. The sessions that lists of calls reach are
-- of this kind (crates/claims_scheduler/proofs/Sizes.antt).
use mathlib.Core.Path.{◌≡◌, refl, sym, ap, ap₂, ◌∙◌}
use mathlib.Core.Bool.{Bool, true, false}
use mathlib.Core.List.{List, [], ◌++◌, append-nil}
use Prim.Native.Nat.{ℕ, ◌≤◌}
use native.Mathlib.Omega.{arith}
use borrow.Author.Tests.{eqb-true, ltb-false}
use lib.Dec.{eqb, ltb, lit<}
use lib.ListN.{length, take, drop}
use lib.Seq.{drop-length}
use Rattle.scope.specs.Refusals.{granted, short_output}
use Rattle.scope.proofs.Refusing.{refuse_none}
use Rattle.session.specs.Session.{Session}
use Rattle.session.specs.Calls.{Given, data_call, text_call, finish_call, Finished}
use Rattle.suspend.specs.Calls.{suspend_call, Resumed}
use Rattle.suspend.specs.Walk.{resume_call}
use Rattle.claims.specs.Lists.{Bytes, Call.give_data, Call.give_text, Call.suspend_and_resume}
use Rattle.bytes_c.specs.Order.{next, room, buffer_after}
use Rattle.bytes_c.specs.SessionBytes.{session_bytes, session_in, whole}
use Rattle.bytes_c.proofs.Sizes.{Sized}
use Rattle.bytes_c.proofs.SessionLaws.{session_row, session_whole}
use Rattle.bytes_c.proofs.Answering.{fits}
use Rattle.tulvekas.specs.Sessions.{data_answer, text_answer, finish_answer, suspend_answer, resume_answer, resume_writes}
use Rattle.tulvekas.proofs.Answering.{nothing_later, sound}
use Rattle.tulvekas.proofs.SessionAnswers.{text_again, suspend_again, resume_right}
use Rattle.claims_c.specs.Lists.{left, Buffers, c_call}
use Rattle.claims_c.specs.ThroughC.{Stands}

-- ---- calls on the bytes of a session

-- 240 bytes are filled by a session's
pub stored : (u : Session) (b : List ℕ) → length b ≡ 240 → left 0 u b ≡ session_bytes u
stored u b e =
    let none : drop 240 b ≡ [] = ap (λ (k : ℕ). drop k b) (sym e) ∙ drop-length b in
    ap (λ (r : List ℕ). session_bytes u ++ r) none ∙ append-nil (session_bytes u)

-- room for both
pub both_fit : (tag iv : List ℕ) → room 16 tag (room 16 iv 0) ≡ 0 → (16 ≤ length tag) × (16 ≤ length iv)
both_fit tag iv e =
    let a = refuse_none (ltb (length tag) 16) short_output (room 16 iv 0) (lit< tt) e in
    let b = refuse_none (ltb (length iv) 16) short_output 0 (lit< tt) a.1 in
    (ltb-false (length tag) 16 a.0, ltb-false (length iv) 16 b.0)

-- a call that is refused below, or later
pub not_zero : (n later : ℕ) → eqb later 0 ≡ false → eqb (next n later) 0 ≡ false
not_zero n later e = go (eqb n 0) refl
  where
    go : (v : Bool) → eqb n 0 ≡ v → eqb (next n later) 0 ≡ false
    go true z = rw z e
    go false z = rw z z

module _ (s : Session) (g : Sized s) where
  unfoldable pub bytes : List ℕ
  bytes = session_bytes s

  long : length bytes ≡ 240
  unfolding bytes
  long = (session_row s g).long

  lists : session_in bytes ≡ s
  unfolding bytes
  lists = session_whole s g

  -- a call that reads the session
  listed : {A : Type 0} (f : Session → A) → f (session_in bytes) ≡ f s
  listed f = ap f lists

  answers : (f : Session → ℕ) → whole bytes (f (session_in bytes)) ≡ f s
  answers f = sym (sound bytes (f (session_in bytes)) long) ∙ listed f

  -- and writes the one that it gives, which is the same where it is refused
  left_is : (n : ℕ) (u : Session) → (eqb n 0 ≡ false → u ≡ s) → left n u bytes ≡ session_bytes u
  unfolding bytes
  left_is n u kept = go (eqb n 0) refl
    where
      go : (v : Bool) → eqb n 0 ≡ v → left n u (session_bytes s) ≡ session_bytes u
      go true e = rw e (stored u (session_bytes s) long)
      go false e = rw e (ap session_bytes (sym (kept e)))

  call_left : (f : Session → Given) → (eqb (f s).number 0 ≡ false → (f s).session ≡ s)
      → left (whole bytes (f (session_in bytes)).number) (f (session_in bytes)).session bytes ≡ session_bytes (f s).session
  call_left f kept =
      ap₂ (λ (n : ℕ) (u : Session). left n u bytes) (answers (λ (u : Session). (f u).number)) (listed (λ (u : Session). (f u).session))
      ∙ left_is (f s).number (f s).session kept

  call_written : (f : Session → Given) (out : List ℕ) → (f s).out ≡ granted (f s).number (f s).out out
      → granted (whole bytes (f (session_in bytes)).number) (f (session_in bytes)).out out ≡ (f s).out
  call_written f out e =
      ap₂ (λ (n : ℕ) (o : List ℕ). granted n o out) (answers (λ (u : Session). (f u).number)) (listed (λ (u : Session). (f u).out)) ∙ sym e

  finish_kept : eqb (finish_call s).number 0 ≡ false → (finish_call s).session ≡ s
  unfolding finish_call
  finish_kept e = rw e

  -- one whose buffers lack room leaves the session, late or not
  pub finish_short : (tag iv : List ℕ) → eqb (room 16 tag (room 16 iv 0)) 0 ≡ false
      → left (finish_answer bytes tag iv) (finish_call (session_in bytes)).session bytes ≡ bytes
  unfolding finish_answer
  finish_short tag iv e =
      let later : ℕ = room 16 tag (room 16 iv 0) in
      ap (λ (n : ℕ). left n (finish_call (session_in bytes)).session bytes) (answers (λ (u : Session). next (finish_call u).number later))
      ∙ rw (not_zero (finish_call s).number later e)

  module _ (tag iv : List ℕ) (tag_room : 16 ≤ length tag) (iv_room : 16 ≤ length iv) where
    finish_answered : finish_answer bytes tag iv ≡ (finish_call s).number
    unfolding finish_answer
    finish_answered =
        answers (λ (u : Session). next (finish_call u).number (room 16 tag (room 16 iv 0)))
        ∙ ap (next (finish_call s).number) (sym (fits 16 iv 0 iv_room ∙ fits 16 tag (room 16 iv 0) tag_room))
        ∙ sym (nothing_later (finish_call s).number)

    finish_written : (f : Finished → List ℕ) (out : List ℕ)
        → buffer_after (finish_answer bytes tag iv) 16 (f (finish_call (session_in bytes))) out ≡ buffer_after (finish_call s).number 16 (f (finish_call s)) out
    finish_written f out = ap₂ (λ (n : ℕ) (o : List ℕ). buffer_after n 16 o out) finish_answered (listed (λ (u : Session). f (finish_call u)))

    pub finish_left : left (finish_answer bytes tag iv) (finish_call (session_in bytes)).session bytes ≡ session_bytes (finish_call s).session
    finish_left =
        ap₂ (λ (n : ℕ) (u : Session). left n u bytes) finish_answered (listed (λ (u : Session). (finish_call u).session))
        ∙ left_is (finish_call s).number (finish_call s).session finish_kept

  pub stands : Stands bytes s
  unfolding bytes data_answer text_answer suspend_answer
  stands =
      record {
        bytes = refl;
        lists = lists;
        data_answers = λ p. answers (λ (u : Session). (data_call u p).number);
        text_answers = λ p out. answers (λ (u : Session). (text_call u p out).number);
        text_output = λ p out. call_written (λ (u : Session). text_call u p out) out (text_again s p out);
        finish_answers = finish_answered;
        finish_tag = λ tag iv r q. finish_written tag iv r q (λ (g : Finished). g.tag) tag;
        finish_iv = λ tag iv r q. finish_written tag iv r q (λ (g : Finished). g.iv) iv;
        finish_session = finish_left;
        suspend_answers = λ out. answers (λ (u : Session). (suspend_call u out).number);
        suspend_output = λ out. call_written (λ (u : Session). suspend_call u out) out (suspend_again s out);
      }

  pub data_left : (key : List ℕ) (f : Buffers) (p : Bytes) → c_call key bytes f (give_data p) ≡ session_bytes (data_call s p.list).session
  unfolding c_call data_answer data_call
  data_left key f p = call_left (λ (u : Session). data_call u p.list) (λ e. rw e)

  pub text_left : (key : List ℕ) (f : Buffers) (p out : Bytes) → c_call key bytes f (give_text p out) ≡ session_bytes (text_call s p.list out.list).session
  unfolding c_call text_answer text_call
  text_left key f p out = call_left (λ (u : Session). text_call u p.list out.list) (λ e. rw e)

  -- resumed from a block that gives it back, into any buffers with room
  module _ (key iv block : List ℕ) (back : resume_call key block ≡ record { number = 0; iv = iv; session = s }) (fresh into : List ℕ)
      (room-240 : 240 ≤ length fresh) (room-16 : 16 ≤ length into) where
    pub answered : resume_answer key block fresh into ≡ 0
    answered = sym (resume_right key block fresh into refl (ap (λ (r : Resumed). r.number) back) room-240 room-16)

    pub resumed_left : left (resume_answer key block fresh into) (resume_call key block).session fresh ≡ bytes ++ drop 240 fresh
    unfolding bytes
    resumed_left = ap₂ (λ (n : ℕ) (u : Session). left n u fresh) answered (ap (λ (r : Resumed). r.session) back)

    pub resumed_iv : resume_writes key block fresh into ≡ iv ++ drop 16 into
    resumed_iv = ap₂ (λ (n : ℕ) (v : List ℕ). buffer_after n 16 v into) answered (ap (λ (r : Resumed). r.iv) back)

  -- suspended into this output, and resumed into fresh bytes where that is accepted
  pub resumed_fresh : (key iv : List ℕ) (f : Buffers) (out : Bytes)
      → ((suspend_call s out.list).number ≡ 0
      → resume_call key (take 512 (suspend_call s out.list).out) ≡ record { number = 0; iv = iv; session = s })
      → c_call key bytes f (suspend_and_resume out) ≡ bytes
  unfolding c_call
  resumed_fresh key iv f out back =
      ap₂ goes (stands.suspend_answers out.list) (stands.suspend_output out.list) ∙ go (eqb (suspend_call s out.list).number 0) refl
    where
      block : List ℕ
      block = take 512 (suspend_call s out.list).out

      gives : (block : List ℕ) → List ℕ
      gives b = left (resume_answer key b f.session f.iv) (resume_call key b).session f.session

      goes : (n : ℕ) → (o : List ℕ) → List ℕ
      goes n o = granted n (gives (take 512 o)) bytes

      none : drop 240 f.session ≡ []
      none = ap (λ (k : ℕ). drop k f.session) (sym f.session_long) ∙ drop-length f.session

      go : (v : Bool) → eqb (suspend_call s out.list).number 0 ≡ v → granted (suspend_call s out.list).number (gives block) bytes ≡ bytes
      go true e =
          let long : 240 ≤ length f.session = let l = f.session_long in omega arith in
          rw e (resumed_left key iv block (back (eqb-true _ 0 e)) f.session f.iv long f.iv_room
          ∙ ap (λ (r : List ℕ). bytes ++ r) none ∙ append-nil bytes)
      go false e = rw e
