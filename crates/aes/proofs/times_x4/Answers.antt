-- `aes::times_x4` meets its contract.
use Rattle.words.specs.Xor.{◌⊕◌}
use Rattle.aes.proofs.Columns.{times_x}
use borrow.Author.Rules.{rules}
use Rattle.aes.proofs.times_x4.Goals as goal

pub returns : goal.returns
unfolding ◌⊕◌
returns c = times_x c.args.w (search rules)
