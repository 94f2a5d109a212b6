-- `digest::hold` meets its contract: bytes that stay in the block in use only set it.
use mathlib.Core.Path.{sym, ap, ◌∙◌}
use Rattle.ghash.specs.Machine.{bytes_of_element}
use Rattle.digest.specs.Machine.{sum_of}
use Rattle.digest.proofs.Pieces.{sum, absorb_inside}
use Rattle.digest.proofs.hold.Goals as goal

pub returns : goal.returns
returns c =
    let a = c.args in
    ap (sum (bytes_of_element a.d.acc)) c.keep-q.ensures
    ∙ sym (absorb_inside (bytes_of_element a.h) (sum_of a.d) a.n a.piece.now c.requires)
