-- `tulvekas::tulvekas_suspend` meets its contract, by the session's length and the answer of the call below.
use mathlib.Core.Bool.{not}
use mathlib.Core.Path.{◌≡◌, ◌∙◌, ap}
use lib.ListN.{length}
use Rattle.session.specs.Session.{Session}
use Rattle.session.specs.Calls.{Given}
use Rattle.suspend.specs.Calls.{suspend_call}
use Rattle.bytes_c.specs.SessionBytes.{session_in}
use Rattle.bytes_c.proofs.Answering.{never, refused}
use Rattle.tulvekas.specs.Sessions.{suspend_answer}
use Rattle.tulvekas.proofs.Answering.{torn, long}
use Rattle.tulvekas.proofs.SessionAnswers.{suspend_again, below_number, below_out}
use Rattle.tulvekas.proofs.tulvekas_suspend.Goals as goal
use Rattle.tulvekas.proofs.tulvekas_suspend.Goals.{Else-not-is_session}

is_long : (c : Else-not-is_session) → length c.args.session.now ≡ 240
is_long c = long c.args.session.now c.is_session.ensures (ap not c.if-not-is_session.false)

pub returns-then-not-is_session : goal.returns-then-not-is_session
unfolding suspend_answer
returns-then-not-is_session c =
    let a = c.args in
    let g = suspend_call (session_in a.session.now) a.block.now in
    let e = torn a.session.now c.is_session.ensures g.number (ap not c.if-not-is_session.true) in
    record { answer = e; block = refused e g.out a.block.now (never 7) }

pub returns : goal.returns
unfolding suspend_answer
returns c =
    let a = c.args in
    let s = a.session.now in
    let u = c.load_session.ensures in
    let b = a.block.now in
    let f : Session → Given = λ v. suspend_call v b in
    record { answer = c.suspend.ensures.says.number ∙ below_number s (is_long (goal.at.returns c).Else-not-is_session) u f; block = c.suspend.ensures.out_after ∙ below_out s (is_long (goal.at.returns c).Else-not-is_session) u f b (suspend_again (session_in s) b) }

pub load_session-requires : goal.load_session-requires
load_session-requires c = is_long (goal.at.load_session-requires c).Else-not-is_session
