-- `scheduler::session_at` meets its contract: the session is read where the place has it.
use mathlib.Core.Path.{◌≡◌, ap, ◌∙◌}
use Prim.Native.Nat.{ℕ, ◌+◌, ◌-◌, ◌*◌}
use native.Mathlib.Omega.{arith}
use lib.ListN.{take, drop}
use Rattle.bytes_c.specs.SessionBytes.{session_in}
use Rattle.scheduler.proofs.Reading.{at_session}
use Rattle.scheduler.proofs.session_at.Goals as goal

pub returns : goal.returns
returns c =
    let a = c.args in
    let at = 16 + 256 * a.i in
    let k : at + 240 - at ≡ 240 = omega arith in
    c.load_session.ensures ∙ ap (λ (m : ℕ). session_in (take m (drop at a.s.now))) k ∙ ap session_in (at_session a.s.now a.i)
