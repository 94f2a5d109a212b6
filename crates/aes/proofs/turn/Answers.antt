-- `aes::turn` meets its contract.
use mathlib.Core.Path.{ap, ◌∙◌}
use Rattle.words.specs.Bytes.{little}
use Rattle.aes.proofs.Columns.{turn_down}
use borrow.Author.Rules.{rules}
use Rattle.aes.proofs.turn.Goals as goal

pub returns : goal.returns
returns c = ap (little 4) c.rotate_right.ensures ∙ turn_down c.args.w (search rules)
