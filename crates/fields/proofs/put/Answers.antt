-- `fields::put` meets its contract: at each turn, what is left to write would make the whole.
use Rattle.std.proofs.Common.{arith}
use Rattle.words.proofs.Writing.{put_more, put_all}
use Rattle.fields.proofs.put.Goals as goal

pub loop-i-preserved : goal.loop-i-preserved
loop-i-preserved c =
    let l = c.loop-i in
    let a = c.args in
    put_more a.k l.i a.at l.m l.out _ (omega arith) l.invariant

pub returns : goal.returns
returns c =
    let l = c.loop-i in
    let a = c.args in
    put_all a.k l.i a.at l.m l.out _ (omega arith) l.invariant
