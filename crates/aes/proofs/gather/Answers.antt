-- `aes::gather` meets its contract: the four entries are the word's bytes.
use mathlib.Core.Path.{ap, ◌∙◌}
use Prim.Native.Nat.{ℕ}
use native.Mathlib.Omega.{arith}
use lib.ListN.{get_or}
use Rattle.words.specs.Bytes.{little}
use Rattle.words.proofs.Blocks.{four}
use Rattle.aes.specs.Round.{gathered}
use Rattle.aes.proofs.Columns.{joined}
use Rattle.aes.proofs.gather.Goals as goal

pub returns : goal.returns
unfolding little gathered
returns c =
    let a = c.args in
    let at : ℕ → ℕ = λ i. get_or a.t.now i 0 in
    ap (little 4) c.from_le_bytes.ensures
    ∙ joined _ _ _ _ c.entry.type_inv c.entry-2.type_inv c.entry-3.type_inv c.entry-4.type_inv
    ∙ four c.entry.ensures c.entry-2.ensures (c.entry-3.ensures ∙ ap at (omega arith)) (c.entry-4.ensures ∙ ap at (omega arith))
