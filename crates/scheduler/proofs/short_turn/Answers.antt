-- `scheduler::short_turn` meets its contract: whatever the output, the same refusal or 4.
use mathlib.Core.Path.{◌≡◌, sym, ap, ◌∙◌}
use Prim.Native.Nat.{ℕ}
use native.Mathlib.Omega.{arith}
use borrow.Author.Tests.{ne_eqb}
use lib.ListN.{length}
use Rattle.scope.specs.Machine.{refusal_number}
use Rattle.scope.proofs.Refused as Refused
use Rattle.session.specs.Session.{Session}
use Rattle.session.specs.Calls.{text_call}
use Rattle.bytes_c.specs.Order as Order
use Rattle.scheduler.specs.Scheduler.{Stay}
use Rattle.scheduler.specs.Calls.{sealing, answer, Outcome}
use Rattle.scheduler.proofs.Looking.{looked_long, found_inside, found_next, few_there}
use Rattle.scheduler.proofs.Turning.{idles, refused_looked, session_outcome}
use Rattle.scheduler.proofs.short_turn.Goals as goal

-- a refusal is passed on
passed : (n : ℕ) → ¬ (n ≡ 0) → n ≡ Order.next n 4
passed n h = rw (ne_eqb n 0 h)

pub returns-in-Err : goal.returns-in-Err
returns-in-Err c out =
    let a = c.args in
    let e = c.in-Err.e in
    let o = (refused_looked a.scheduler.now a.piece.now out e c.in-Err.ensures).outcome in
    passed (refusal_number e) (Refused.refused e) ∙ ap (λ (u : Outcome). Order.next (answer u) 4) (sym o)

pub returns-in-Ok-None : goal.returns-in-Ok-None
returns-in-Ok-None c out =
    let a = c.args in
    let b = a.scheduler.now in
    let p = a.piece.now in
    let k = rw c.in-Ok-None.field-0-is at c.in-Ok-None.ensures in
    let o = (idles b p out (looked_long b (length p) (sym k.0)) k.1).outcome in
    ap (λ (u : Outcome). Order.next (answer u) 4) (sym o)

pub session_at-requires : goal.session_at-requires
session_at-requires c =
    let a = c.args in
    let b = a.scheduler.now in
    let k = rw c.in-Ok-Some.field-0-is at c.in-Ok-Some.ensures in
    (looked_long b (length a.piece.now) (sym k.0), omega (arith, found_inside b c.in-Ok-Some.i k.1, few_there b))

pub returns-in-Ok-Some : goal.returns-in-Ok-Some
returns-in-Ok-Some c out =
    let a = c.args in
    let b = a.scheduler.now in
    let p = a.piece.now in
    let k = rw c.in-Ok-Some.field-0-is at c.in-Ok-Some.ensures in
    let x = found_next b c.in-Ok-Some.i k.1 in
    c.short_text.ensures out
    ∙ ap (λ (s : Session). Order.next (text_call s p out).number 4) c.session_at.ensures
    ∙ ap (λ (y : Stay). Order.next (sealing y p out).number 4) (sym x)
    ∙ ap (λ (n : ℕ). Order.next n 4) (sym (session_outcome b p out (sym k.0) k.1.0))
