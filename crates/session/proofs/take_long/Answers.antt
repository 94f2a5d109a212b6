-- `session::take_long` meets its contract: the data are closed, and the piece goes the long way, with the table made.
use mathlib.Core.Path.{ap, ◌∙◌}
use Rattle.session.specs.Session.{Session}
use Rattle.session.specs.Machine.{session_of}
use Rattle.session.proofs.Pieces.{closed_h, closed_count, closed_drawn, closed_piece}
use Rattle.session.proofs.take_long.Goals as goal

pub long_text-requires : goal.long_text-requires
long_text-requires c =
    let close = c.close_with in
    let fill = c.fill in
    let e = closed_count (session_of c.args.s) (session_of close.result) close.ensures in
    let f = closed_drawn (session_of c.args.s) (session_of close.result) close.ensures in
    let h = ap (λ (u : Session). u.h) close.ensures ∙ closed_h (session_of c.args.s) in (
      rw e c.requires.0,
      rw e c.requires.1,
      record { of_rounds = c.requires.2; of_h = rw h fill.ensures },
      rw f c.requires.3,
    )

pub returns : goal.returns
returns c = let p = (let close = c.close_with in
    let a = c.args in
    closed_piece (session_of a.s) (session_of close.result) close.ensures _ a.piece.now a.out.now _ (c.long_text.ensures.session, c.long_text.ensures.out)) in record { session = p.0; out = p.1 }

pub close_with-requires : goal.close_with-requires
close_with-requires c = c.fill.ensures
