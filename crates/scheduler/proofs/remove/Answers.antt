-- `scheduler::remove` meets its contract: the places behind move down, and zeros follow.
use native.Mathlib.Omega.{arith}
use Rattle.scheduler.proofs.Leaving.{taken_out}
use Rattle.scheduler.proofs.remove.Goals as goal

pub returns : goal.returns
returns c =
    let a = c.args in
    taken_out a.s.now a.i a.n (omega arith) (omega arith) c.move_down.ensures c.clear.ensures
