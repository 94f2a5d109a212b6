-- `session::lent::close_with` meets its contract, by the phase.
use mathlib.Core.Path.{ap, ◌∙◌}
use Rattle.session.specs.Machine.{session_of}
use Rattle.session.specs.Inner.{into_text}
use Rattle.session.proofs.Pieces.{closed_already, closed_now}
use native.Mathlib.Omega.{arith}
use Rattle.session.proofs.lent.close_with.Goals as goal

pub returns-then-s-gt0 : goal.returns-then-s-gt0
returns-then-s-gt0 c = closed_already (session_of c.args.s) (omega (arith, c.if-s-gt0.true))

pub returns : goal.returns
returns c =
    let s = session_of c.args.s in
    c.into_text.ensures ∙ ap (into_text s) c.settle_with.ensures ∙ closed_now s (omega (arith, c.if-s-gt0.false))

pub settle_with-requires : goal.settle_with-requires
settle_with-requires c = c.requires
