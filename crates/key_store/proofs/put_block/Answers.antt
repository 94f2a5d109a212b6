-- `key_store::put_block` meets its contract: what was lent from the place on is back, with the block in its front.
use mathlib.Core.Path.{◌≡◌, ap, ◌∙◌}
use mathlib.Core.List.{List, ◌++◌}
use Prim.Native.Nat.{ℕ, ◌*◌, ◌-◌}
use native.Mathlib.Omega.{arith}
use borrow.Author.Rules.{rules}
use lib.ListN.{length, take, drop}
use lib.Seq.{take_all}
use Rattle.fields.proofs.Blocks.{lent_back}
use Rattle.key_store.proofs.put_block.Goals as goal
use Rattle.key_store.proofs.put_block.Goals.{Start}

block_long : (c : Start) → length c.args.block ≡ 512
block_long c = search rules

pub returns : goal.returns
returns c =
    let s = c.args.store.now in
    let b = c.args.block in
    lent_back s b _ c.args.i c.requires
    (c.copy.ensures ∙ ap (λ (l : List ℕ). l ++ drop 512 (take (length s - 512 * c.args.i) (drop (512 * c.args.i) s))) (take_all 512 b (omega (arith, block_long (goal.at.returns c).Start))))
