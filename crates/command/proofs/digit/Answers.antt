-- `command::digit` meets its contract, by the five ranges of a byte.
use mathlib.Core.Path.{ap, ◌∙◌}
use native.Mathlib.Omega.{arith}
use Rattle.std.specs.Prelude.{Some}
use Rattle.command.proofs.Digits.{below_0, decimal_digit, between, letter, above_f, said_some, said_none}
use Rattle.command.proofs.digit.Goals as goal

pub returns-in-48-to-57 : goal.returns-in-48-to-57
returns-in-48-to-57 c = let e = decimal_digit c.args.b (omega arith) (omega arith) in ap Some e ∙ said_some _ (omega arith)

pub returns-in-97-to-102 : goal.returns-in-97-to-102
returns-in-97-to-102 c = let e = letter c.args.b (omega arith) (omega arith) in ap Some e ∙ said_some _ (omega arith)

pub returns-in_default : goal.returns-in_default
returns-in_default c = let e = below_0 c.args.b (omega arith) in said_none _ (omega arith)

pub returns-in_default-2 : goal.returns-in_default-2
returns-in_default-2 c = let e = between c.args.b (omega arith) (omega arith) in said_none _ (omega arith)

pub returns-in_default-3 : goal.returns-in_default-3
returns-in_default-3 c = let e = above_f c.args.b (omega arith) in said_none _ (omega arith)
