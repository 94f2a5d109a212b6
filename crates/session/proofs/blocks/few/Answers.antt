-- `session::blocks::few` meets its contract: the bytes of a block that stays open are held, which is what the definition does byte by byte.
use Prim.Native.Nat.{◌+◌, ◌-◌, ◌%◌, ◌<◌}
use mathlib.Core.Path.{◌≡◌}
use native.Mathlib.Omega.{arith}
use lib.ListN.{length}
use lib.Seq.{slice, length-slice}
use Rattle.session.specs.Machine.{session_of}
use Rattle.session.proofs.Going.{none, all_session, all_output}
use Rattle.session.proofs.Made.{few_session, part_out}
use Rattle.session.proofs.blocks.few.Goals as goal
use Rattle.session.proofs.blocks.few.Goals.{Else-to-from}

pub returns-then-to-from : goal.returns-then-to-from
returns-then-to-from c =
    let a = c.args in
    let g = none (session_of a.s) a.piece.now a.out.now a.from a.to c.requires.0.ordered in
    let e : a.from ≡ a.to = omega (arith, c.requires.0.ordered) in
    record { session = all_session g e; out = all_output g e }

some : (c : Else-to-from) → let a = c.args in 0 < a.to - a.from
some c = omega arith

pub returns : goal.returns
returns c =
    let a = c.args in
    let part = slice a.from a.to a.piece.now in
    let n : length part ≡ a.to - a.from = length-slice a.from a.to a.piece.now c.requires.0.read in
    let z : 0 < length part = rw n (some (goal.at.returns c).Else-to-from) in
    let inside : a.s.text % 16 + length part < 16 = rw n c.requires.1 in record { session = few_session (session_of a.s) c.hold.result part c.hold.ensures.session z inside; out = part_out (session_of a.s) c.hold.result part c.hold.ensures.session z (omega arith) a.out.now _ a.from c.hold.ensures.out }
