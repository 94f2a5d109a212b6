-- `cipher::pair` meets its contract.
use mathlib.Core.Path.{ap, ◌∙◌}
use Prim.Native.Nat.{ℕ, ◌+◌}
use native.Mathlib.Nat.{mul_comm}
use Rattle.words.specs.Bytes.{little}
use Rattle.words.proofs.Bytes.{little_join}
use borrow.Author.Rules.{rules}
use Rattle.cipher.proofs.pair.Goals as goal

pub returns : goal.returns
returns c =
    ap (λ (n : ℕ). little 4 (c.args.lo + n)) (mul_comm c.args.hi 0x10000) ∙ little_join 2 c.args.lo c.args.hi (search rules) (search rules)
