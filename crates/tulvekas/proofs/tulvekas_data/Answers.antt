-- `tulvekas::tulvekas_data` meets its contract, by the session's length and the answer of the call below.
use mathlib.Core.Bool.{not}
use mathlib.Core.Path.{◌≡◌, ◌∙◌, ap}
use native.Mathlib.Omega.{arith}
use lib.ListN.{length}
use Rattle.std.proofs.lemmas.Result.{err_from_is_err_and}
use Rattle.scope.proofs.Refused.{refused}
use Rattle.session.specs.Session.{Session}
use Rattle.session.specs.Calls.{Given, data_call}
use Rattle.bytes_c.specs.SessionBytes.{session_in}
use Rattle.bytes_c.proofs.Answering.{never}
use Rattle.tulvekas.specs.Sessions.{data_answer}
use Rattle.tulvekas.proofs.Answering.{leaves_all, leaves_stored, torn, long}
use Rattle.tulvekas.proofs.SessionAnswers.{below_number, below_session}
use Rattle.tulvekas.proofs.tulvekas_data.Goals as goal
use Rattle.tulvekas.proofs.tulvekas_data.Goals.{Else-not-is_session}

is_long : (c : Else-not-is_session) → length c.args.session.now ≡ 240
is_long c = long c.args.session.now c.is_session.ensures (ap not c.if-not-is_session.false)

pub returns-then-not-is_session : goal.returns-then-not-is_session
unfolding data_answer
returns-then-not-is_session c =
    let a = c.args in
    let g = data_call (session_in a.session.now) a.piece.now in
    let e = torn a.session.now c.is_session.ensures g.number (ap not c.if-not-is_session.true) in
    record { answer = e; session = leaves_all e g.session a.session.now (never 7) }

pub returns-in_err-data : goal.returns-in_err-data
unfolding data_answer
returns-in_err-data c =
    let a = c.args in
    let s = a.session.now in
    let f : Session → Given = λ v. data_call v a.piece.now in
    let p = err_from_is_err_and c.from_residual.result c.from_residual.ensures.1 in
    let n = c.in_err-data.ensures.number ∙ below_number s (is_long (goal.at.returns-in_err-data c).Else-not-is_session) c.load_session-s.ensures f in
    record { answer = rw (p.1, p.2) n; session = leaves_all n (f (session_in s)).session s (refused c.in_err-data.field-0.0) }

pub returns : goal.returns
unfolding data_answer
returns c =
    let a = c.args in
    let s = a.session.now in
    let u = c.load_session-s.ensures in
    let f : Session → Given = λ v. data_call v a.piece.now in
    let l = is_long (goal.at.returns c).Else-not-is_session in
    let e = c.in_ok-data.ensures.number ∙ below_number s l u f in
    record { answer = e; session = leaves_stored e _ (f (session_in s)).session s _ (c.in_ok-data.ensures.session ∙ below_session s l u f) c.store_session.ensures }

pub load_session-s-requires : goal.load_session-s-requires
load_session-s-requires c = is_long (goal.at.load_session-s-requires c).Else-not-is_session

pub store_session-requires : goal.store_session-requires
store_session-requires c = omega (arith, is_long (goal.at.store_session-requires c).Else-not-is_session)
