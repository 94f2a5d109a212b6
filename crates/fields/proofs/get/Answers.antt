-- `fields::get` meets its contract: the number of the bytes passed, from the last down.
use Rattle.std.proofs.Common.{◌≡◌, ◌+◌, ◌-◌, ◌<◌, le-add_right, lt_of_le_of_lt, arith, lit<}
use Rattle.fields.proofs.Reading.{get_none, get_more, more_lt, few_lt}
use Rattle.fields.proofs.get.Goals as goal

pub loop-i-init : goal.loop-i-init
loop-i-init c =
    let a = c.args in
    let e : a.k - a.k ≡ 0 = omega arith in
    (get_none a.s.now a.at a.k, rw e (omega arith))

pub overflow_mul-n : goal.overflow_mul-n
overflow_mul-n c = record { fits = lt_of_le_of_lt (le-add_right _ 0) (few_lt c.loop-i.n 0 _ c.loop-i.invariant.1 (lit< tt) (omega arith)) }

pub overflow_add-n : goal.overflow_add-n
overflow_add-n c =
    let l = c.loop-i in
    let b : c.from.result < 256 = rw c.from.ensures ((c.type_inv.s _).fits) in
    record { fits = few_lt l.n _ _ l.invariant.1 b (omega arith) }

pub loop-i-preserved : goal.loop-i-preserved
loop-i-preserved c =
    let l = c.loop-i in
    let a = c.args in
    let b : c.from.result < 256 = rw c.from.ensures ((c.type_inv.s _).fits) in
    let e : a.k - (l.i - 1) ≡ a.k - l.i + 1 = omega arith in (
      get_more a.s.now a.at a.k l.i l.n _ (omega arith) (omega arith) (omega arith) l.invariant.0 c.from.ensures,
      rw e (more_lt l.n _ _ l.invariant.1 b),
    )
