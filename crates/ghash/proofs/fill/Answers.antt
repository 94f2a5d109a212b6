-- `ghash::fill` meets its contract: the loop goes from the leftmost place to the rightmost.
use mathlib.Core.Path.{◌≡◌}
use native.Mathlib.Omega.{arith}
use Rattle.ghash.specs.Machine.{bytes_of_element}
use Rattle.ghash.specs.Inner.{number_of}
use Rattle.ghash.proofs.Filling.{filled_none, filled_more, filled_all}
use Rattle.ghash.proofs.fill.Goals as goal

pub loop-p-init : goal.loop-p-init
loop-p-init c = filled_none (number_of c.to_number-v.result) c.args.table.now c.requires

pub loop-p-preserved : goal.loop-p-preserved
loop-p-preserved c =
    let l = c.loop-p in
    filled_more _ _ _ l.p l.table _ (omega arith) l.invariant c.place-v.ensures.result_value c.place-v.ensures.table_after

pub returns : goal.returns
returns c =
    let l = c.loop-p in
    let e : l.p ≡ 32 = omega arith in
    filled_all (bytes_of_element c.args.h) (number_of l.v) l.table (rw (c.to_number-v.ensures, e) at l.invariant)
