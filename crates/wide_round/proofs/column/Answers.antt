-- `wide_round::column` meets its contract: each entry is what the table's rule gives.
use native.Mathlib.Omega.{arith}
use Rattle.words.specs.Xor.{◌⊕◌}
use Rattle.wide_round.proofs.Columns.{wide_lt, is_column}
use borrow.Author.Rules.{rules}
use Rattle.wide_round.proofs.column.Goals as goal

pub overflow_add-result : goal.overflow_add-result
overflow_add-result c =
    omega (arith, c.requires.rule c.args.b (search rules), wide_lt c.args.b)

pub overflow_add-result-2 : goal.overflow_add-result-2
overflow_add-result-2 c =
    omega (arith, c.requires.rule c.args.c (search rules), wide_lt c.args.c)

pub overflow_add-result-3 : goal.overflow_add-result-3
overflow_add-result-3 c =
    omega (arith, c.requires.rule c.args.d (search rules), wide_lt c.args.d)

pub returns : goal.returns
unfolding ◌⊕◌
returns c =
    let a = c.args in
    is_column a.a a.b a.c a.d _ _ _ _ (c.requires.rule a.a (search rules)) (c.requires.rule a.b (search rules))
    (c.requires.rule a.c (search rules)) (c.requires.rule a.d (search rules))
