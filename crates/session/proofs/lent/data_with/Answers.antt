-- `session::lent::data_with` meets its contract: the piece is hashed with the lent table, and counted.
use mathlib.Core.Path.{◌∙◌}
use Rattle.session.specs.Machine.{session_of}
use Rattle.session.proofs.Pieces.{told_taken}
use Rattle.session.proofs.lent.data_with.Goals as goal

pub returns : goal.returns
returns c =
    c.told.ensures ∙ told_taken (session_of c.args.s) c.args.piece.now _ c.requires.0 c.absorb_with.ensures

pub absorb_with-requires : goal.absorb_with-requires
absorb_with-requires c = c.requires.2
