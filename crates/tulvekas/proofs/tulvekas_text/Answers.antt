-- `tulvekas::tulvekas_text` meets its contract, by the session's length and the answer of the call below.
use mathlib.Core.Bool.{not}
use mathlib.Core.Path.{◌≡◌, ◌∙◌, ap}
use native.Mathlib.Omega.{arith}
use lib.ListN.{length}
use Rattle.std.proofs.lemmas.Result.{err_from_is_err_and}
use Rattle.scope.proofs.Refused.{refused}
use Rattle.session.specs.Session.{Session}
use Rattle.session.specs.Calls.{Given, text_call}
use Rattle.bytes_c.specs.SessionBytes.{session_in}
use Rattle.bytes_c.proofs.Answering.{never, refused as untouched}
use Rattle.tulvekas.specs.Sessions.{text_answer}
use Rattle.tulvekas.proofs.Answering.{leaves_all, leaves_stored, torn, long}
use Rattle.tulvekas.proofs.SessionAnswers.{text_again, below_number, below_session, below_out}
use Rattle.tulvekas.proofs.tulvekas_text.Goals as goal
use Rattle.tulvekas.proofs.tulvekas_text.Goals.{Else-not-is_session}

is_long : (c : Else-not-is_session) → length c.args.session.now ≡ 240
is_long c = long c.args.session.now c.is_session.ensures (ap not c.if-not-is_session.false)

pub returns-then-not-is_session : goal.returns-then-not-is_session
unfolding text_answer
returns-then-not-is_session c =
    let a = c.args in
    let s = a.session.now in
    let out = a.out.now in
    let g = text_call (session_in s) a.piece.now out in
    let e = torn s c.is_session.ensures g.number (ap not c.if-not-is_session.true) in
    record { answer = e; session = leaves_all e g.session s (never 7); out = untouched e g.out out (never 7) }

pub returns-in_err-text : goal.returns-in_err-text
unfolding text_answer
returns-in_err-text c =
    let a = c.args in
    let s = a.session.now in
    let out = a.out.now in
    let u = c.load_session-s.ensures in
    let f : Session → Given = λ v. text_call v a.piece.now out in
    let l = is_long (goal.at.returns-in_err-text c).Else-not-is_session in
    let p = err_from_is_err_and c.from_residual.result c.from_residual.ensures.1 in
    let n = c.in_err-text.ensures.says.number ∙ below_number s l u f in
    record {
      answer = rw (p.1, p.2) n;
      session = leaves_all n (f (session_in s)).session s (refused c.in_err-text.field-0.0);
      out = c.in_err-text.ensures.out ∙ below_out s l u f out (text_again (session_in s) a.piece.now out);
    }

pub returns : goal.returns
unfolding text_answer
returns c =
    let a = c.args in
    let s = a.session.now in
    let out = a.out.now in
    let u = c.load_session-s.ensures in
    let f : Session → Given = λ v. text_call v a.piece.now out in
    let l = is_long (goal.at.returns c).Else-not-is_session in
    let e = c.in_ok-text.ensures.says.number ∙ below_number s l u f in
    record {
      answer = e;
      session = leaves_stored e _ (f (session_in s)).session s _ (c.in_ok-text.ensures.says.session ∙ below_session s l u f) c.store_session.ensures;
      out = c.in_ok-text.ensures.out ∙ below_out s l u f out (text_again (session_in s) a.piece.now out);
    }

pub load_session-s-requires : goal.load_session-s-requires
load_session-s-requires c = is_long (goal.at.load_session-s-requires c).Else-not-is_session

pub store_session-requires : goal.store_session-requires
store_session-requires c = omega (arith, is_long (goal.at.store_session-requires c).Else-not-is_session)
