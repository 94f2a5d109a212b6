-- `session::data` meets its contract, by the phase and the limit.
use mathlib.Core.Path.{sym, ◌∙◌}
use native.Mathlib.Omega.{arith}
use Rattle.session.specs.Machine.{session_of}
use Rattle.session.specs.Calls.{data_call}
use Rattle.session.proofs.Pieces.{told_taken}
use Rattle.session.proofs.Numbers.{data_late, data_over, data_fits, data_refused, data_accepted}
use Rattle.session.proofs.data.Goals as goal

pub returns-then-s-ne0 : goal.returns-then-s-ne0
unfolding data_call
returns-then-s-ne0 c =
    let a = c.args in
    let s = session_of a.s.now in
    let e = data_late s a.piece.now c.if-s-ne0.true in
    record { number = sym e; session = sym (data_refused s a.piece.now 6 e) }

pub returns-then-n-gt-MOST_DATA : goal.returns-then-n-gt-MOST_DATA
unfolding data_call
returns-then-n-gt-MOST_DATA c =
    let a = c.args in
    let s = session_of a.s.now in
    let e = data_over s a.piece.now c.if-s-ne0.false (omega arith) in
    record { number = sym e; session = sym (data_refused s a.piece.now 2 e) }

pub returns-then-ad-n : goal.returns-then-ad-n
unfolding data_call
returns-then-ad-n c =
    let a = c.args in
    let s = session_of a.s.now in
    let e = data_over s a.piece.now c.if-s-ne0.false (omega arith) in
    record { number = sym e; session = sym (data_refused s a.piece.now 2 e) }

pub returns : goal.returns
unfolding data_call
returns c =
    let a = c.args in
    let s = session_of a.s.now in
    let p = c.if-s-ne0.false in
    let e = data_fits s a.piece.now p (omega arith) in
    record {
      number = sym e;
      session = c.told.ensures ∙ told_taken s a.piece.now _ p c.absorb.ensures ∙ sym (data_accepted s a.piece.now e);
    }
