-- `command::put` meets its contract: the part that is written over holds the text.
use Prim.Native.Nat.{◌+◌, ◌-◌}
use native.Mathlib.Omega.{arith}
use lib.ListN.{length}
use Rattle.words.proofs.Writing.{put_part}
use Rattle.command.proofs.put.Goals as goal

pub returns-clause-out : goal.returns-clause-out
returns-clause-out c =
    let a = c.args in
    put_part a.out.now a.at (a.at + length a.text.now - a.at) c.copy_from_slice.ensures.after (omega arith) (omega (arith, c.requires))
