-- `scheduler::short_text` meets its contract: the output decides only between 4 and 0, and either makes 4.
use mathlib.Core.Path.{◌≡◌, refl, ap, ◌∙◌}
use mathlib.Core.List.{List}
use mathlib.Core.Bool.{Bool, true, false, not}
use Prim.Native.Nat.{ℕ, ◌+◌}
use lib.Dec.{ltb}
use lib.ListN.{length}
use Rattle.scope.specs.Limits.{most_text}
use Rattle.scope.specs.Machine.{refusal_number}
use Rattle.scope.specs.Refusals.{refuse, granted}
use Rattle.scope.proofs.Refused as Refused
use Rattle.session.specs.Session.{Session}
use Rattle.session.specs.Calls.{text_too_far, text_number, text_call}
use Rattle.session.specs.Machine.{session_of}
use Rattle.bytes_c.specs.Order.{next}
use Rattle.bytes_c.proofs.Answering.{accepted, refused}
use Rattle.scheduler.proofs.short_text.Goals as goal

either : (a b c d e : Bool)
    → next (refuse a 7 (refuse b 3 (refuse c 9 (refuse d 4 0)))) 4 ≡ next (refuse a 7 (refuse b 3 (refuse c 9 (refuse e 4 0)))) 4
either true b c d e = refl
either false true c d e = refl
either false false true d e = refl
either false false false true true = refl
either false false false true false = refl
either false false false false true = refl
either false false false false false = refl

whatever : (s : Session) (p out other : List ℕ) → next (text_call s p out).number 4 ≡ next (text_call s p other).number 4
unfolding text_call text_number
whatever s p out other =
    either (not (ltb s.phase 2)) (ltb most_text (s.text + length p)) (text_too_far s p) (ltb (length out) (length p)) (ltb (length other) (length p))

passes : (r n : ℕ) → r ≡ n → ¬ (r ≡ 0) → r ≡ next n 4
passes r n e h = refused e 4 r h ∙ ap (granted n 4) e

pub returns-in-Ok : goal.returns-in-Ok
returns-in-Ok c out =
    let a = c.args in
    accepted c.in-Ok.ensures.says.number 4 _ ∙ whatever (session_of a.s) a.piece.now _ out

pub returns-in-Err : goal.returns-in-Err
returns-in-Err c out =
    let a = c.args in
    let e = c.in-Err.e in
    passes (refusal_number e) _ c.in-Err.ensures.says.number (Refused.refused e) ∙ whatever (session_of a.s) a.piece.now _ out
