-- `fields::cells` meets its contract: at each turn, the cells left to read would make the whole.
use Rattle.std.proofs.Common.{◌+◌, ◌-◌, ◌*◌, drop, refl, arith, length-set}
use Rattle.fields.proofs.Reading.{cells_none, cells_more, cells_all}
use Rattle.fields.proofs.cells.Goals as goal

pub loop-i-init : goal.loop-i-init
loop-i-init c =
    let a = c.args in
    (refl, cells_none a.s.now a.at _ (omega arith) refl)

pub loop-i-preserved : goal.loop-i-preserved
loop-i-preserved c =
    let l = c.loop-i in
    let a = c.args in
    (simp length-set l.invariant.0, cells_more 2 16 a.s.now a.at l.i _ l.r _ (omega arith) c.get.ensures.0 l.invariant.1)

pub returns : goal.returns
returns c =
    let l = c.loop-i in
    let a = c.args in
    cells_all 2 (drop (a.at + 2 * l.i) a.s.now) l.r _ l.i (16 - l.i) (omega arith) l.invariant.1
