-- `session::finish` meets its contract, by the phase.
use mathlib.Core.List.{List}
use mathlib.Core.Path.{sym, ap, ◌∙◌}
use Prim.Native.Nat.{ℕ}
use Rattle.session.specs.Machine.{session_of}
use Rattle.session.specs.Calls.{finished}
use Rattle.session.proofs.Numbers.{finish_late, finish_due, finish_refused, finish_accepted}
use native.Mathlib.Omega.{arith}
use Rattle.session.proofs.finish.Goals as goal

pub returns-then-s-gt1 : goal.returns-then-s-gt1
returns-then-s-gt1 c =
    let s = session_of c.args.s.now in
    sym (finish_refused s (finish_late s (omega (arith, c.if-s-gt1.true))))

pub returns : goal.returns
unfolding finished
returns c =
    let s = session_of c.args.s.now in
    ap (λ (t : List ℕ). record { number = 0; tag = t; iv = s.iv; session = finished s }) c.tag-tag.ensures
    ∙ sym (finish_accepted s (finish_due s (omega (arith, c.if-s-gt1.false))))
