-- `scheduler::comes_before` meets its contract: all rank alike, so that the marks decide.
use mathlib.Core.Path.{◌≡◌, sym, ap₂, ◌∙◌}
use mathlib.Core.Bool.{and-false, or-false}
use lib.Dec.{eqb, ltb}
use Rattle.scheduler.specs.Scheduler.{Stay, scheduler_order, goes_before}
use Rattle.scheduler.specs.Inner.{stay_at}
use Rattle.scheduler.proofs.comes_before.Goals as goal

by_marks : (x y : Stay) → ltb x.mark y.mark ≡ goes_before scheduler_order x y
unfolding goes_before
by_marks x y = sym (rw (and-false (eqb x.mark y.mark)) (or-false (ltb x.mark y.mark)))

pub returns : goal.returns
returns c =
    let a = c.args in
    let s = a.s.now in
    ap₂ ltb c.mark_at.ensures c.mark_at-2.ensures ∙ by_marks (stay_at s a.i) (stay_at s a.j)
