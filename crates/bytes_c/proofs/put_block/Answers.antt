-- `bytes_c::put_block` meets its contract: the block is that of all sixteen bytes.
use Prim.Native.Nat.{ℕ, ◌+◌}
use mathlib.Core.Path.{◌≡◌, ap, ◌∙◌}
use mathlib.Core.List.{◌++◌}
use native.Mathlib.Omega.{arith}
use lib.ListN.{length, take, drop}
use lib.Seq.{sets, sets-eq, take_all}
use borrow.Author.Rules.{rules}
use Rattle.bytes_c.proofs.put_block.Goals as goal
use Rattle.bytes_c.proofs.put_block.Goals.{Start}

long : (c : Start) → length c.args.b ≡ 16
long c = search rules

pub returns : goal.returns
returns c =
    let a = c.args in
    let out = a.out.now in
    let n = long (goal.at.returns c).Start in
    c.store.ensures
    ∙ ap (sets out a.at) (c.load.ensures ∙ take_all 16 a.b (omega arith))
    ∙ sets-eq a.b out a.at (rw n c.requires)
    ∙ ap (λ (k : ℕ). take a.at out ++ a.b ++ drop (a.at + k) out) n
