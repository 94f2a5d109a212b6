-- `session::take_text` meets its contract: the data are closed, and the piece goes the short way where no block is filled, and else the long one.
use native.Mathlib.Omega.{arith}
use Rattle.session.specs.Machine.{session_of}
use Rattle.session.proofs.Pieces.{closed_count, closed_drawn, closed_piece}
use Rattle.session.proofs.take_text.Goals as goal

pub short_text-requires : goal.short_text-requires
short_text-requires c =
    let e = closed_count (session_of c.args.s) (session_of c.close.result) c.close.ensures in
    let f = closed_drawn (session_of c.args.s) (session_of c.close.result) c.close.ensures in
    (rw e c.requires.0, rw e (omega arith), c.table-rounds.ensures, rw f c.requires.1)

pub returns-then-piece-at : goal.returns-then-piece-at
returns-then-piece-at c = let p = (let a = c.args in
    let close = c.close in
    closed_piece (session_of a.s) (session_of close.result) close.ensures _ a.piece.now a.out.now _ (c.short_text.ensures.session, c.short_text.ensures.out)) in record { session = p.0; out = p.1 }

pub take_long-requires : goal.take_long-requires
take_long-requires c = (c.requires.0, omega (arith, c.if-piece-at.false), c.table-rounds.ensures, c.requires.1)
