-- `scheduler::put_head` meets its contract: one number behind the other.
use native.Mathlib.Omega.{arith}
use Rattle.words.specs.Bytes.{little}
use Rattle.words.proofs.Bytes.{little_long}
use Rattle.words.proofs.Writing.{put_next}
use Rattle.scheduler.specs.Bytes.{head}
use Rattle.scheduler.proofs.put_head.Goals as goal

pub returns : goal.returns
unfolding head
returns c =
    let a = c.args in
    put_next a.s.now (little 8 a.turns) (little 8 a.n) 0 8 (let l = little_long 8 a.turns in omega arith) c.put.ensures c.put-2.ensures
