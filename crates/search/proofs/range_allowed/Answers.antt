-- `search::range_allowed` meets its contract, test by test.
use Rattle.search.proofs.Numbers.{bad_key, bad_dump, too_far, bad_order, in_order}
use Rattle.search.proofs.range_allowed.Goals as goal

pub returns-then-key-ne32 : goal.returns-then-key-ne32
returns-then-key-ne32 c = let a = c.args in bad_key a.dump.now a.key.now a.lowest a.highest c.if-key-ne32.true

pub returns-then-dump-ne112 : goal.returns-then-dump-ne112
returns-then-dump-ne112 c =
    let a = c.args in bad_dump a.dump.now a.key.now a.lowest a.highest c.if-key-ne32.false c.if-dump-ne112.true

pub returns-then-highest-gt-MOST_BLOCKS : goal.returns-then-highest-gt-MOST_BLOCKS
returns-then-highest-gt-MOST_BLOCKS c =
    let a = c.args in
    too_far a.dump.now a.key.now a.lowest a.highest c.if-key-ne32.false c.if-dump-ne112.false c.if-highest-gt-MOST_BLOCKS.true

pub returns-then-highest-lowest : goal.returns-then-highest-lowest
returns-then-highest-lowest c =
    let a = c.args in
    bad_order a.dump.now a.key.now a.lowest a.highest c.if-key-ne32.false c.if-dump-ne112.false c.if-highest-gt-MOST_BLOCKS.false c.if-highest-lowest.true

pub returns : goal.returns
returns c =
    let a = c.args in
    in_order a.dump.now a.key.now a.lowest a.highest c.if-key-ne32.false c.if-dump-ne112.false c.if-highest-gt-MOST_BLOCKS.false c.if-highest-lowest.false
