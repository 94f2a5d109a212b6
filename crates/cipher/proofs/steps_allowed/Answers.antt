-- `cipher::steps_allowed` meets its contract, test by test.
use mathlib.Core.Path.{sym}
use Rattle.cipher.proofs.Counting.{far_count, far_run, far_on, goes_on, far_back, goes_back}
use Rattle.cipher.proofs.steps_allowed.Goals as goal

pub returns-then-count-gt-MOST_BLOCKS : goal.returns-then-count-gt-MOST_BLOCKS
returns-then-count-gt-MOST_BLOCKS c = let a = c.args in sym (far_count a.n a.count a.back c.if-count-gt-MOST_BLOCKS.true)

pub returns-then-n-gt-MOST_BLOCKS : goal.returns-then-n-gt-MOST_BLOCKS
returns-then-n-gt-MOST_BLOCKS c = let a = c.args in sym (far_run a.n a.count a.back c.if-count-gt-MOST_BLOCKS.false c.if-n-gt-MOST_BLOCKS.true)

pub returns-then-count-n : goal.returns-then-count-n
returns-then-count-n c =
    let a = c.args in
    rw c.if-back.true (sym (far_back a.n a.count c.if-count-gt-MOST_BLOCKS.false c.if-n-gt-MOST_BLOCKS.false c.if-count-n.true))

pub returns-then-back : goal.returns-then-back
returns-then-back c =
    let a = c.args in
    rw c.if-back.true (sym (goes_back a.n a.count c.if-count-n.false c.if-count-gt-MOST_BLOCKS.false))

pub returns-then-count-n-gt-MOST_BLOCKS : goal.returns-then-count-n-gt-MOST_BLOCKS
returns-then-count-n-gt-MOST_BLOCKS c =
    let a = c.args in
    rw c.if-back.false (sym (far_on a.n a.count c.if-count-gt-MOST_BLOCKS.false c.if-n-gt-MOST_BLOCKS.false c.if-count-n-gt-MOST_BLOCKS.true))

pub returns : goal.returns
returns c =
    let a = c.args in
    rw c.if-back.false (sym (goes_on a.n a.count c.if-count-n-gt-MOST_BLOCKS.false))
