-- `tulvekas::tulvekas_finish` meets its contract, by the session's length, its phase, the lengths of both buffers and the answer of the call below.
use mathlib.Core.Bool.{not}
use Prim.Native.Nat.{ℕ}
use mathlib.Core.Path.{◌≡◌, refl, ap, ◌∙◌}
use mathlib.Core.List.{List, ◌++◌}
use native.Mathlib.Omega.{arith}
use lib.ListN.{length, drop}
use Rattle.std.proofs.lemmas.Result.{err_from_is_err_and}
use Rattle.scope.proofs.Refused.{refused}
use Rattle.session.specs.Machine.{session_of}
use Rattle.session.specs.Calls.{finish_call, Finished}
use Rattle.bytes_c.specs.Order.{next, room, buffer_after}
use Rattle.bytes_c.specs.SessionBytes.{session_in, Leaves}
use Rattle.bytes_c.proofs.Answering.{never, unwritten, accepted}
use Rattle.tulvekas.specs.Sessions.{finish_answer}
use Rattle.tulvekas.proofs.Answering.{leaves_all, leaves_stored, torn, long}
use Rattle.tulvekas.proofs.SessionAnswers.{finish_ended, finish_open, finish_refused, finish_short, finish_short_iv, finish_right}
use Rattle.tulvekas.proofs.tulvekas_finish.Goals as goal
use Rattle.tulvekas.proofs.tulvekas_finish.Goals.{Else-not-is_session}

is_long : (c : Else-not-is_session) → length c.args.session.now ≡ 240
is_long c = long c.args.session.now c.is_session.ensures (ap not c.if-not-is_session.false)

-- a refusal leaves all three
refusal : {k n : ℕ} → k ≡ n → ¬ (k ≡ 0) → (g : Finished) (s tag iv : List ℕ)
    → (k ≡ n) × (Leaves n g.session s s × ((tag ≡ buffer_after n 16 g.tag tag) × (iv ≡ buffer_after n 16 g.iv iv)))
refusal e h g s tag iv = (e, (leaves_all e g.session s h, (unwritten e 16 g.tag tag h, unwritten e 16 g.iv iv h)))

pub returns-then-not-is_session : goal.returns-then-not-is_session
unfolding finish_answer
returns-then-not-is_session c =
    let a = c.args in
    let g = finish_call (session_in a.session.now) in
    let e = torn a.session.now c.is_session.ensures (next g.number (room 16 a.tag.now (room 16 a.iv.now 0))) (ap not c.if-not-is_session.true) in
    let p = refusal e (never 7) g a.session.now a.tag.now a.iv.now in
    record { answer = p.0; session = p.1.0; tag = p.1.1.0; iv = p.1.1.1 }

pub returns-then-s-ge2 : goal.returns-then-s-ge2
returns-then-s-ge2 c =
    let a = c.args in
    let n = finish_ended (session_of c.load_session-s.result) c.if-s-ge2.true in
    let e = finish_refused a.session.now (is_long (goal.at.returns-then-s-ge2 c).Else-not-is_session) c.load_session-s.ensures a.tag.now a.iv.now n (never 6) in
    let p = refusal e (never 6) (finish_call (session_in a.session.now)) a.session.now a.tag.now a.iv.now in
    record { answer = p.0; session = p.1.0; tag = p.1.1.0; iv = p.1.1.1 }

pub returns-in_err-f : goal.returns-in_err-f
returns-in_err-f c =
    let a = c.args in
    let p = err_from_is_err_and c.from_residual.result c.from_residual.ensures.1 in
    let h = refused c.in_err-f.field-0.0 in
    let n = ap (λ (u : Finished). u.number) c.in_err-f.ensures in
    let e = finish_refused a.session.now (is_long (goal.at.returns-in_err-f c).Else-not-is_session) c.load_session-s.ensures a.tag.now a.iv.now n h in
    let q = refusal e h (finish_call (session_in a.session.now)) a.session.now a.tag.now a.iv.now in
    record { answer = rw (p.1, p.2) q.0; session = q.1.0; tag = q.1.1.0; iv = q.1.1.1 }

pub returns-then-tag-lt-TAG_BYTES : goal.returns-then-tag-lt-TAG_BYTES
returns-then-tag-lt-TAG_BYTES c =
    let a = c.args in
    let n = finish_open (session_of c.load_session-s.result) c.if-s-ge2.false in
    let e = finish_short a.session.now (is_long (goal.at.returns-then-tag-lt-TAG_BYTES c).Else-not-is_session) c.load_session-s.ensures a.tag.now a.iv.now n
    refl c.if-tag-lt-TAG_BYTES.true in
    let p = refusal e (never 3) (finish_call (session_in a.session.now)) a.session.now a.tag.now a.iv.now in
    record { answer = p.0; session = p.1.0; tag = p.1.1.0; iv = p.1.1.1 }

pub returns-then-iv-lt-IV_BYTES : goal.returns-then-iv-lt-IV_BYTES
returns-then-iv-lt-IV_BYTES c =
    let a = c.args in
    let n = finish_open (session_of c.load_session-s.result) c.if-s-ge2.false in
    let e = finish_short_iv a.session.now (is_long (goal.at.returns-then-iv-lt-IV_BYTES c).Else-not-is_session) c.load_session-s.ensures a.tag.now a.iv.now n
    refl c.if-tag-lt-TAG_BYTES.false c.if-iv-lt-IV_BYTES.true in
    let p = refusal e (never 3) (finish_call (session_in a.session.now)) a.session.now a.tag.now a.iv.now in
    record { answer = p.0; session = p.1.0; tag = p.1.1.0; iv = p.1.1.1 }

pub returns : goal.returns
returns c =
    let a = c.args in
    let s = a.session.now in
    let tag = a.tag.now in
    let iv = a.iv.now in
    let g = finish_call (session_in s) in
    let n = ap (λ (u : Finished). u.number) c.in_ok-f.ensures in
    let e = finish_right s (is_long (goal.at.returns c).Else-not-is_session) c.load_session-s.ensures tag iv n refl c.if-tag-lt-TAG_BYTES.false c.if-iv-lt-IV_BYTES.false in
    let d = c.in_ok-f.ensures ∙ ap finish_call c.load_session-s.ensures in
    record {
      answer = e;
      session = leaves_stored e _ g.session s _ (ap (λ (u : Finished). u.session) d) c.store_session.ensures;
      tag = c.put_block.ensures ∙ ap (λ (u : Finished). u.tag ++ drop 16 tag) d ∙ accepted e (g.tag ++ drop 16 tag) tag;
      iv = c.put_block-2.ensures ∙ ap (λ (u : Finished). u.iv ++ drop 16 iv) d ∙ accepted e (g.iv ++ drop 16 iv) iv;
    }

pub load_session-s-requires : goal.load_session-s-requires
load_session-s-requires c = is_long (goal.at.load_session-s-requires c).Else-not-is_session

pub store_session-requires : goal.store_session-requires
store_session-requires c = omega (arith, is_long (goal.at.store_session-requires c).Else-not-is_session)
