-- `scheduler::turn` meets its contract: what is refused before the session is asked, an empty scheduler, what the session refuses, and a numbered turn.
use Rattle.std.specs.Prelude.{Some, Ok, Err}
use mathlib.Core.Path.{◌≡◌, refl, sym, ap, subst, ◌∙◌}
use mathlib.Core.List.{List, [], ◌∷◌}
use mathlib.Core.Bool.{not}
use Prim.Native.Nat.{ℕ, ◌+◌, ◌<◌}
use native.Mathlib.Omega.{arith}
use borrow.Author.Rules.{rules}
use borrow.Author.Tests.{ne_eqb, ltb-true, not-false}
use lib.Dec.{eqb, ltb, lit<}
use lib.ListN.{length}
use Rattle.scope.specs.Limits.{most_text}
use Rattle.scope.specs.Refusals.{refuse}
use Rattle.scope.proofs.Refusing.{refuse_none}
use Rattle.scope.proofs.Refused as Refused
use Rattle.session.specs.Session.{Session}
use Rattle.session.specs.Calls.{Given, text_too_far, text_number, text_call}
use Rattle.session.specs.Machine.{session_of}
use Rattle.session.specs.Pieces.{closed, byte_taken, text_taken}
use Rattle.scheduler.specs.Scheduler.{Stay, session_for, scheduler_order, next}
use Rattle.scheduler.specs.Calls.{sealing}
use Rattle.scheduler.specs.Bytes.{scheduler_in}
use Rattle.scheduler.specs.Inner.{stay_at}
use Rattle.scheduler.proofs.Looking.{looked_long, found_inside, found_next, found_more, few_there}
use Rattle.scheduler.proofs.Order.{of_picked}
use Rattle.scheduler.proofs.Turning.{idles, refused_looked, refused_sealing, Turns, turns_refused, turns_idle, turns_served}
use Rattle.scheduler.proofs.turn.Goals as goal

pub returns-in_err-i : goal.returns-in_err-i
returns-in_err-i c =
    let a = c.args in
    let b = a.scheduler.now in
    let e = c.in_err-i.field-0.0 in
    let q : c.from_residual.result ≡ Err e = search rules in
    turns_refused b a.piece.now a.out.now e q (refused_looked b a.piece.now a.out.now e c.in_err-i.ensures)

pub returns-in_default : goal.returns-in_default
returns-in_default c =
    let a = c.args in
    let b = a.scheduler.now in
    let p = a.piece.now in
    let k = rw c.in_default.is at c.in_ok-i.ensures in
    turns_idle b p a.out.now (idles b p a.out.now (looked_long b (length p) (sym k.0)) k.1)

pub session_at-u-requires : goal.session_at-u-requires
session_at-u-requires c =
    let a = c.args in
    let b = a.scheduler.now in
    let k = rw c.in-Some.is at c.in_ok-i.ensures in
    (looked_long b (length a.piece.now) (sym k.0), omega (arith, found_inside b c.in-Some.i k.1, few_there b))

-- the session that was read is the next one's
given : (b p o : List ℕ) (i : ℕ) {s : Session} → next scheduler_order (scheduler_in b) ≡ stay_at b i → s ≡ session_for (stay_at b i)
    → text_call s p o ≡ sealing (next scheduler_order (scheduler_in b)) p o
given b p o i x e = ap (λ (s : Session). text_call s p o) e ∙ ap (λ (y : Stay). sealing y p o) (sym x)

pub returns : goal.returns
returns c =
    let a = c.args in
    let b = a.scheduler.now in
    let p = a.piece.now in
    let o = a.out.now in
    let i = c.in-Some.i in
    let k = rw c.in-Some.is at c.in_ok-i.ensures in
    let x = found_next b i k.1 in
    let g = given b p o i x c.session_at-u.ensures in
    let said = c.in_ok-text.ensures in
    subst (λ (l : List ℕ). Turns b p o (Ok (Some c.served.result)) l c.served.new.s) (sym (said.out ∙ ap (λ (y : Given). y.out) g))
    (turns_served b p o (sym k.0) k.1.0 i (session_of c.text.new.s) k.1.1 x (said.says.session ∙ ap (λ (y : Given). y.session) g)
    (sym (said.says.number ∙ ap (λ (y : Given). y.number) g)) c.served.ensures.says c.served.ensures.bytes)

-- a refused piece writes nothing
refused_out : (s : Session) (p o : List ℕ) → ¬ ((text_call s p o).number ≡ 0) → (text_call s p o).out ≡ o
unfolding text_call
refused_out s p o h = rw (ne_eqb (text_number s p o) 0 h)

pub returns-in_err-text : goal.returns-in_err-text
returns-in_err-text c =
    let a = c.args in
    let b = a.scheduler.now in
    let p = a.piece.now in
    let o = a.out.now in
    let k = rw c.in-Some.is at c.in_ok-i.ensures in
    let e = c.in_err-text.field-0.0 in
    let r = c.from_residual-in_err-text.result in
    let q : r ≡ Err e = search rules in
    let u = session_of c.session_at-u.result in
    let said = c.in_err-text.ensures in
    let n = said.says.number ∙ ap (λ (x : Given). x.number) (given b p o c.in-Some.i (found_next b c.in-Some.i k.1) c.session_at-u.ensures) in
    subst (λ (l : List ℕ). Turns b p o r l b) (sym (said.out ∙ refused_out u p o (λ z. Refused.refused e (said.says.number ∙ z))))
    (turns_refused b p o e q (refused_sealing b p o (sym k.0) k.1.0 e n))

-- and after a piece that was sealed the session is not finished
text_phase : (s : Session) (p : List ℕ) → (text_taken s p).phase ≡ s.phase
unfolding text_taken byte_taken
text_phase s [] = refl
text_phase s (x ∷ p) = text_phase (byte_taken s x) p

closed_open : (s : Session) → s.phase < 2 → (closed s).phase < 2
unfolding closed
closed_open s h = of_picked (λ (u : Session). u.phase < 2) (eqb s.phase 0) (λ z. lit< tt) (λ z. h)

sealed_open : (s : Session) (p o : List ℕ) → (text_call s p o).number ≡ 0 → (text_call s p o).session.phase < 2
unfolding text_call text_number
sealed_open s p o e =
    let far = refuse (text_too_far s p) 9 (refuse (ltb (length o) (length p)) 4 0) in
    let late = (refuse_none (not (ltb s.phase 2)) 7 (refuse (ltb most_text (s.text + length p)) 3 far) (lit< tt) e).0 in
    let early : s.phase < 2 = ltb-true s.phase 2 (not-false (ltb s.phase 2) late) in
    rw e (subst (λ (m : ℕ). m < 2) (sym (text_phase (closed s) p)) (closed_open s early))

pub served-requires : goal.served-requires
served-requires c =
    let a = c.args in
    let b = a.scheduler.now in
    let n = length a.piece.now in
    let i = c.in-Some.i in
    let k = rw c.in-Some.is at c.in_ok-i.ensures in
    let said = c.in_ok-text.ensures.says in
    let q = sealed_open (session_of c.session_at-u.result) a.piece.now a.out.now (sym said.number) in
    let early : c.text.new.s.phase < 2 = subst (λ (m : ℕ). m < 2) (sym (ap (λ (s : Session). s.phase) said.session)) q in
    (looked_long b n (sym k.0), found_inside b i k.1, found_more b i k.1 n (sym k.0), early)
