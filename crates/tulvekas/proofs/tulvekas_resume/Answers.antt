-- `tulvekas::tulvekas_resume` meets its contract, by the answer of the call below and the two lengths.
use Prim.Native.Nat.{ℕ}
use mathlib.Core.Path.{refl, ap, ◌∙◌}
use mathlib.Core.List.{List, ◌++◌}
use lib.ListN.{drop}
use Rattle.std.proofs.lemmas.Result.{err_from_is_err_and}
use Rattle.scope.proofs.Refused.{refused}
use Rattle.suspend.specs.Calls.{Resumed}
use Rattle.suspend.specs.Walk.{resume_call}
use Rattle.bytes_c.proofs.Answering.{never, unwritten, accepted}
use Rattle.tulvekas.proofs.Answering.{leaves_all, leaves_stored}
use Rattle.tulvekas.proofs.SessionAnswers.{resume_refused, resume_short, resume_short_iv, resume_right}
use Rattle.tulvekas.proofs.tulvekas_resume.Goals as goal

pub returns-in_err-s : goal.returns-in_err-s
returns-in_err-s c =
    let a = c.args in
    let g = resume_call a.key.now a.block.now in
    let s = a.session.now in
    let iv = a.iv.now in
    let n = ap (λ (x : Resumed). x.number) c.in_err-s.ensures.walk in
    let p = err_from_is_err_and c.from_residual.result c.from_residual.ensures.1 in
    let h = refused c.in_err-s.field-0.0 in
    let e = resume_refused a.key.now a.block.now s iv n h in
    record { answer = rw (p.1, p.2) e; session = leaves_all e g.session s h; iv = unwritten e 16 g.iv iv h }

pub returns-then-session-lt-SESSION_BYTES : goal.returns-then-session-lt-SESSION_BYTES
returns-then-session-lt-SESSION_BYTES c =
    let a = c.args in
    let g = resume_call a.key.now a.block.now in
    let s = a.session.now in
    let iv = a.iv.now in
    let n = ap (λ (x : Resumed). x.number) c.in_ok-s.ensures.walk in
    let e = resume_short a.key.now a.block.now s iv n refl c.if-session-lt-SESSION_BYTES.true in
    record { answer = e; session = leaves_all e g.session s (never 3); iv = unwritten e 16 g.iv iv (never 3) }

pub returns-then-iv-lt-IV_BYTES : goal.returns-then-iv-lt-IV_BYTES
returns-then-iv-lt-IV_BYTES c =
    let a = c.args in
    let g = resume_call a.key.now a.block.now in
    let s = a.session.now in
    let iv = a.iv.now in
    let n = ap (λ (x : Resumed). x.number) c.in_ok-s.ensures.walk in
    let e = resume_short_iv a.key.now a.block.now s iv n refl c.if-session-lt-SESSION_BYTES.false c.if-iv-lt-IV_BYTES.true in
    record { answer = e; session = leaves_all e g.session s (never 3); iv = unwritten e 16 g.iv iv (never 3) }

pub returns : goal.returns
returns c =
    let a = c.args in
    let g = resume_call a.key.now a.block.now in
    let s = a.session.now in
    let iv = a.iv.now in
    let w = c.in_ok-s.ensures.walk in
    let e = resume_right a.key.now a.block.now s iv (ap (λ (x : Resumed). x.number) w) refl c.if-session-lt-SESSION_BYTES.false c.if-iv-lt-IV_BYTES.false in
    record {
      answer = e;
      session = leaves_stored e _ g.session s _ (ap (λ (x : Resumed). x.session) w) c.store_session.ensures;
      iv = c.put_block.ensures ∙ ap (λ (v : List ℕ). v ++ drop 16 iv) (ap (λ (x : Resumed). x.iv) w) ∙ accepted e (g.iv ++ drop 16 iv) iv;
    }
