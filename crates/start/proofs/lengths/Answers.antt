-- `start::lengths` meets its contract, test by test.
use mathlib.Core.Path.{sym}
use Rattle.start.proofs.Answers.{bad_key, bad_iv, both_right}
use Rattle.start.proofs.lengths.Goals as goal

pub returns-then-key-ne32 : goal.returns-then-key-ne32
returns-then-key-ne32 c = sym (bad_key _ _ c.if-key-ne32.true)

pub returns-then-iv-ne16 : goal.returns-then-iv-ne16
returns-then-iv-ne16 c = sym (bad_iv _ _ c.if-key-ne32.false c.if-iv-ne16.true)

pub returns : goal.returns
returns c = sym (both_right _ _ c.if-key-ne32.false c.if-iv-ne16.false)
