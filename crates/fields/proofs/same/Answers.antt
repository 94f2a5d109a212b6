-- `fields::same` meets its contract: what has been seen, and what is left to see, make the answer.
use Rattle.std.proofs.Common.{◌+◌, arith}
use Rattle.fields.proofs.Sames.{same_more, same_all}
use Rattle.fields.proofs.same.Goals as goal

pub loop-i-preserved : goal.loop-i-preserved
loop-i-preserved c =
    let l = c.loop-i in
    let a = c.args in
    same_more a.s.now a.t.now a.at l.i l.all _ (omega arith) (omega arith) l.invariant

pub returns : goal.returns
returns c =
    let l = c.loop-i in
    let a = c.args in
    same_all a.s.now a.t.now (a.at + l.i) l.i l.all _ (omega arith) l.invariant
