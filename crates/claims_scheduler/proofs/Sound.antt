-- A stay that joined has, at every time, the session of a list of a session's calls: begin under its key and number, then its pieces. So its session takes every piece that the
-- scheduler takes, keeps its number, and has its 240 bytes.
use Prim.Native.Nat.{ℕ}
use mathlib.Core.List.{List, []}
use mathlib.Core.Path.{◌≡◌, sym, ap, ◌∙◌}
use lib.Dec.{ltb}
use lib.ListN.{length}
use Rattle.scope.specs.Refusals.{refuse, short_output}
use Rattle.bytes_c.proofs.SessionLaws.{session_row}
use Rattle.claims.specs.Lists as Sessions
use Rattle.claims.specs.Lists.{Bytes}
use Rattle.scheduler.specs.Scheduler.{Stay, Scheduler, iv_of, due}
use Rattle.scheduler.specs.Calls.{join_number, newcomer, sealing, after_service}
use Rattle.claims_scheduler.proofs.Sizes.{after_sized}
use Rattle.claims_scheduler.proofs.Sealing.{Holds, holds_new, holds_iv, holds_number, holds_after}

-- it holds the session of some key and number, which has sealed some text
pub record Sound (x : Stay) : Type 0 where
  pub key : Bytes
  pub iv : Bytes
  pub text : List ℕ
  pub holds : Holds key iv text x

-- an accepted joining
pub sound_new : (s : Scheduler) (key iv : Bytes) (n : ℕ) → join_number s key.list iv.list n ≡ 0 → Sound (newcomer s key.list iv.list n)
sound_new s key iv n e = record { key = key; iv = iv; text = []; holds = holds_new s key iv n e }

pub new_iv : (s : Scheduler) (key iv : Bytes) (n : ℕ) → join_number s key.list iv.list n ≡ 0 → iv_of (newcomer s key.list iv.list n) ≡ iv.list
new_iv s key iv n e = holds_iv key iv [] (newcomer s key.list iv.list n) (holds_new s key iv n e)

module _ (x : Stay) (s : Sound x) where
  pub sound_long : length x.session ≡ 240
  sound_long =
      let h = s.holds in
      ap length h.session ∙ (session_row (Sessions.after s.key s.iv h.calls).session (after_sized s.key s.iv h.keyed h.calls)).long

  -- a piece that is due is refused for want of room alone
  pub sound_number : (p out : Bytes) → length p.list ≡ due x
      → (sealing x p.list out.list).number ≡ refuse (ltb (length out.list) (length p.list)) short_output 0
  sound_number p out e = holds_number s.key s.iv s.text x s.holds p out e

  -- and one that is taken leaves such a stay, under its number
  module _ (t : ℕ) (p out : Bytes) (e : length p.list ≡ due x) (a : (sealing x p.list out.list).number ≡ 0) where
    pub sound_after : Sound (after_service t x p.list out.list)
    sound_after = record { key = s.key; iv = s.iv; text = _; holds = holds_after s.key s.iv s.text x s.holds p out a t e }

    pub after_iv : iv_of (after_service t x p.list out.list) ≡ iv_of x
    unfolding sound_after
    after_iv = holds_iv s.key s.iv _ _ sound_after.holds ∙ sym (holds_iv s.key s.iv s.text x s.holds)
