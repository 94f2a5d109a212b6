-- `start::walk_allowed` meets its contract, test by test.
use Rattle.start.proofs.Answers.{walk_bad_key, walk_right, walk_too_far}
use Rattle.start.proofs.walk_allowed.Goals as goal

pub returns-then-key-ne32 : goal.returns-then-key-ne32
returns-then-key-ne32 c = walk_bad_key c.args.key.now c.args.count c.if-key-ne32.true

pub returns-then-count-le-MOST_BLOCKS : goal.returns-then-count-le-MOST_BLOCKS
returns-then-count-le-MOST_BLOCKS c =
    let a = c.args in walk_right a.key.now a.count c.if-key-ne32.false c.if-count-le-MOST_BLOCKS.true

pub returns : goal.returns
returns c =
    let a = c.args in walk_too_far a.key.now a.count c.if-key-ne32.false c.if-count-le-MOST_BLOCKS.false
