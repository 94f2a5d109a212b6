-- `session::blocks::short_text` meets its contract: the piece is one part.
use mathlib.Core.Path.{refl}
use native.Mathlib.Nat.{le_refl}
use native.Mathlib.Omega.{arith}
use lib.ListN.{length}
use Rattle.session.specs.Machine.{session_of}
use Rattle.session.proofs.Going.{none, more, whole}
use Rattle.session.proofs.blocks.short_text.Goals as goal

pub returns : goal.returns
returns c = let p = (let a = c.args in
    let few = c.few in
    let n = length a.piece.now in
    let g = none (session_of a.s) a.piece.now a.out.now 0 n (omega arith) in
    whole (more g _ (session_of few.result) n (omega arith) (le_refl n) (le_refl n) few.ensures.session few.ensures.out) refl c.requires.0.room) in record { session = p.0; out = p.1 }
