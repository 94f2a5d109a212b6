-- The answers of a session's calls, by what they find.
use mathlib.Core.Path.{◌≡◌, sym, ap, ◌∙◌}
use mathlib.Core.List.{List, ◌++◌}
use Prim.Native.Nat.{ℕ, ◌≤◌, ◌<◌}
use lib.ListN.{length, drop}
use Rattle.scope.specs.Refusals.{granted}
use Rattle.start.specs.Start.{start_number}
use Rattle.session.specs.Session.{Session}
use Rattle.session.proofs.Numbers.{finish_late, finish_due}
use Rattle.session.specs.Calls.{Given, begin_call, text_number, text_call, finish_call}
use Rattle.session.specs.Pieces.{closed, text_out}
use Rattle.layout.specs.Block.{block_of}
use Rattle.suspend.specs.Calls.{suspension_of, suspend_number, suspend_call}
use Rattle.suspend.specs.Walk.{resume_call}
use Rattle.bytes_c.specs.Order.{next, room}
use Rattle.bytes_c.specs.SessionBytes.{session_in, whole}
use Rattle.bytes_c.proofs.Answering.{short, fits}
use Rattle.tulvekas.specs.Sessions.{begin_answer, finish_answer, resume_answer}
use Rattle.tulvekas.proofs.Answering.{granted_again, below_refuses, below_accepts, then_refused, then_short, then_fits, sound}

module _ (key iv s : List ℕ) {n : ℕ} (e : n ≡ start_number key iv) where
  pub begin_refused : ¬ (n ≡ 0) → n ≡ begin_answer key iv s
  unfolding begin_answer begin_call
  begin_refused = then_refused 240 s e

  module _ (z : n ≡ 0) where
    pub begin_short : length s < 240 → 4 ≡ begin_answer key iv s
    unfolding begin_answer begin_call
    begin_short = then_short 240 s e z

    pub begin_right : 240 ≤ length s → 0 ≡ begin_answer key iv s
    unfolding begin_answer begin_call
    begin_right = then_fits 240 s e z

-- a refused call leaves the output: said once, or twice
pub text_again : (v : Session) (p out : List ℕ) → (text_call v p out).out ≡ granted (text_call v p out).number (text_call v p out).out out
unfolding text_call
text_again v p out = granted_again (text_number v p out) (text_out (closed v) p ++ drop (length p) out) out

pub suspend_again : (v : Session) (b : List ℕ) → (suspend_call v b).out ≡ granted (suspend_call v b).number (suspend_call v b).out b
unfolding suspend_call
suspend_again v b = granted_again (suspend_number v b) (block_of (suspension_of v) ++ drop 512 b) b

-- finish's number by the phase
pub finish_ended : (v : Session) → 2 ≤ v.phase → 7 ≡ (finish_call v).number
unfolding finish_call
finish_ended v h = sym (finish_late v h)

pub finish_open : (v : Session) → v.phase < 2 → 0 ≡ (finish_call v).number
unfolding finish_call
finish_open v h = sym (finish_due v h)

-- ---- calls that read a session: u is the one that its 240 bytes list

module _ (s : List ℕ) (long : length s ≡ 240) {u : Session} (e : u ≡ session_in s) where
  -- the call below
  module _ (f : Session → Given) where
    pub below_number : (f u).number ≡ whole s (f (session_in s)).number
    below_number = ap (λ (v : Session). (f v).number) e ∙ sound s (f (session_in s)).number long

    pub below_session : (f u).session ≡ (f (session_in s)).session
    below_session = ap (λ (v : Session). (f v).session) e

    pub below_out : (out : List ℕ) → (f (session_in s)).out ≡ granted (f (session_in s)).number (f (session_in s)).out out
        → (f u).out ≡ granted (whole s (f (session_in s)).number) (f (session_in s)).out out
    below_out out h =
        ap (λ (v : Session). (f v).out) e ∙ h ∙ ap (λ (n : ℕ). granted n (f (session_in s)).out out) (sound s (f (session_in s)).number long)

  -- n is the number of the call below
  module _ (tag iv : List ℕ) {n : ℕ} (q : n ≡ (finish_call u).number) where
    finish_below : next (finish_call u).number (room 16 tag (room 16 iv 0)) ≡ finish_answer s tag iv
    unfolding finish_answer
    finish_below =
        ap (λ (v : Session). next (finish_call v).number (room 16 tag (room 16 iv 0))) e
        ∙ sound s (next (finish_call (session_in s)).number (room 16 tag (room 16 iv 0))) long

    pub finish_refused : ¬ (n ≡ 0) → n ≡ finish_answer s tag iv
    finish_refused h = q ∙ below_refuses (finish_call u).number (room 16 tag (room 16 iv 0)) (λ z. h (q ∙ z)) ∙ finish_below

    module _ (z : n ≡ 0) where
      finish_room : room 16 tag (room 16 iv 0) ≡ finish_answer s tag iv
      finish_room = below_accepts (finish_call u).number (room 16 tag (room 16 iv 0)) (sym z ∙ q) ∙ finish_below

      pub finish_short : length tag < 16 → 4 ≡ finish_answer s tag iv
      finish_short k = short 16 tag (room 16 iv 0) k ∙ finish_room

      pub finish_short_iv : 16 ≤ length tag → length iv < 16 → 4 ≡ finish_answer s tag iv
      finish_short_iv k m = short 16 iv 0 m ∙ fits 16 tag (room 16 iv 0) k ∙ finish_room

      pub finish_right : 16 ≤ length tag → 16 ≤ length iv → 0 ≡ finish_answer s tag iv
      finish_right k m = fits 16 iv 0 m ∙ fits 16 tag (room 16 iv 0) k ∙ finish_room

-- ---- resume

module _ (key b s iv : List ℕ) {n : ℕ} (e : n ≡ (resume_call key b).number) where
  pub resume_refused : ¬ (n ≡ 0) → n ≡ resume_answer key b s iv
  unfolding resume_answer
  resume_refused h = e ∙ below_refuses (resume_call key b).number (room 240 s (room 16 iv 0)) (λ z. h (e ∙ z))

  module _ (z : n ≡ 0) where
    resume_room : room 240 s (room 16 iv 0) ≡ resume_answer key b s iv
    unfolding resume_answer
    resume_room = below_accepts (resume_call key b).number (room 240 s (room 16 iv 0)) (sym z ∙ e)

    pub resume_short : length s < 240 → 4 ≡ resume_answer key b s iv
    resume_short h = short 240 s (room 16 iv 0) h ∙ resume_room

    pub resume_short_iv : 240 ≤ length s → length iv < 16 → 4 ≡ resume_answer key b s iv
    resume_short_iv h k = short 16 iv 0 k ∙ fits 240 s (room 16 iv 0) h ∙ resume_room

    pub resume_right : 240 ≤ length s → 16 ≤ length iv → 0 ≡ resume_answer key b s iv
    resume_right h k = fits 16 iv 0 k ∙ fits 240 s (room 16 iv 0) h ∙ resume_room
