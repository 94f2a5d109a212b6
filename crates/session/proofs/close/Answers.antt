-- `session::close` meets its contract, by the phase.
use mathlib.Core.Path.{ap, ◌∙◌}
use Rattle.session.specs.Machine.{session_of}
use Rattle.session.specs.Inner.{into_text}
use Rattle.session.proofs.Pieces.{closed_already, closed_now}
use Rattle.session.proofs.close.Goals as goal

pub returns-then-s-ne0 : goal.returns-then-s-ne0
returns-then-s-ne0 c = closed_already (session_of c.args.s) c.if-s-ne0.true

pub returns : goal.returns
returns c =
    let s = session_of c.args.s in
    c.into_text.ensures ∙ ap (into_text s) c.settle.ensures ∙ closed_now s c.if-s-ne0.false
