-- `fields::all_zero` meets its contract: what has been seen, and what is left to see, make the answer.
use Rattle.std.proofs.Common.{◌≡◌, ◌+◌, ◌-◌, arith}
use Rattle.words.specs.Bytes.{part}
use Rattle.fields.proofs.Zeros.{all_zero_more, all_zero_all}
use Rattle.fields.proofs.all_zero.Goals as goal

pub loop-b-preserved : goal.loop-b-preserved
loop-b-preserved c =
    let l = c.loop-b in
    let a = c.args in
    let e : a.at + a.k - a.at ≡ a.k = omega arith in
    rw e (all_zero_more (part a.at a.k a.s.now) l.b-index l.all _ (rw e at c.loop-b-test.true) l.invariant)

pub returns : goal.returns
returns c =
    let l = c.loop-b in
    let a = c.args in
    let e : a.at + a.k - a.at ≡ a.k = omega arith in
    all_zero_all (part a.at a.k a.s.now) l.b-index l.all _ (rw e at c.loop-b-test.false) l.invariant
