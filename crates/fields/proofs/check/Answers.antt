-- `fields::check` meets its contract: the sum so far, and the words left to add, make the check.
use Rattle.std.proofs.Common.{refl, arith}
use Rattle.fields.proofs.Reading.{sum_none, sum_more, sum_all}
use Rattle.fields.proofs.check.Goals as goal

pub loop-i-init : goal.loop-i-init
loop-i-init c = (omega arith, sum_none c.args.s.now)

pub loop-i-preserved : goal.loop-i-preserved
loop-i-preserved c =
    let l = c.loop-i in
    let a = c.args in
    (omega arith, sum_more a.s.now 127 l.i l.sum _ _ _ (omega arith) c.word-sum.ensures refl l.invariant.1)

pub returns : goal.returns
returns c =
    let l = c.loop-i in
    let a = c.args in
    sum_all a.s.now 127 l.i l.sum _ (omega arith) l.invariant.0 l.invariant.1
