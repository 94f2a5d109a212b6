-- `lfsr::clock8` meets its contract: at each turn the cells made are those of the definition.
use Rattle.std.proofs.Common.{◌≡◌, arith, rules}
use Rattle.lfsr.proofs.SnowV.{lawful_v}
use Rattle.lfsr.proofs.Window.{turn_all}
use Rattle.lfsr.proofs.clock8.Goals as goal

pub returns : goal.returns
returns c =
    let l = c.loop-i in
    let s = c.args.s in
    let e : l.i ≡ 8 = omega arith in
    turn_all lawful_v s.a s.b (search rules) (search rules) l.r.a l.r.b (rw e at l.invariant)
