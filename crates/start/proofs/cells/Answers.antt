-- `start::cells` meets its contract: each word of a block is two cells.
use mathlib.Core.List.{◌++◌}
use Rattle.words.proofs.Blocks.{Words}
use Rattle.start.proofs.Splitting.{block_cells}
use borrow.Author.Rules.{rules}
use Rattle.start.proofs.cells.Goals as goal

pub returns : goal.returns
returns c =
    let a = c.args in
    let wl : Words a.lo = record { in_0 = search rules; in_1 = search rules; in_2 = search rules; in_3 = search rules } in
    let wh : Words a.hi = record { in_0 = search rules; in_1 = search rules; in_2 = search rules; in_3 = search rules } in
    λ i. block_cells a.lo wl i ++ block_cells a.hi wh i
