-- `suspend::iv_bytes` meets its contract: two numbers of 8 bytes fill the array.
use mathlib.Core.Path.{ap₂, ◌∙◌}
use mathlib.Core.List.{◌++◌}
use Prim.Native.Nat.{◌+◌}
use native.Mathlib.Omega.{arith}
use lib.ListN.{replicate, length-append}
use Rattle.words.specs.Bytes.{little}
use Rattle.words.proofs.Bytes.{little_long}
use Rattle.words.proofs.Writing.{put_next, put_whole}
use Rattle.suspend.proofs.iv_bytes.Goals as goal

pub returns : goal.returns
returns c =
    let a = c.args in
    put_next (replicate 16 0) (little 8 a.lo) (little 8 a.hi) 0 8 (let n = little_long 8 a.lo in omega arith) c.put.ensures c.put-2.ensures
    ∙ put_whole (replicate 16 0) (little 8 a.lo ++ little 8 a.hi)
    (length-append (little 8 a.lo) (little 8 a.hi) ∙ ap₂ ◌+◌ (little_long 8 a.lo) (little_long 8 a.hi))
