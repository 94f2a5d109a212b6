-- `start::fed` meets its contract: the lower cells come back as they were, the upper with the block xored in.
use Prim.Native.Nat.{ℕ}
use mathlib.Core.Path.{◌≡◌, ap, ap₂, ◌∙◌}
use mathlib.Core.List.{List, ◌++◌}
use lib.Dec.{lit<, lit≤}
use lib.ListN.{take, drop}
use Rattle.words.specs.Xor.{xors}
use Rattle.words.specs.Bytes.{Row, numbers}
use Rattle.words.specs.Machine.{bytes_of}
use Rattle.words.proofs.Rows.{row_take, row_drop}
use Rattle.words.proofs.Bytes.{numbers_littles}
use Rattle.words.proofs.Blocks.{bytes_of_block}
use Rattle.lfsr.proofs.Typed.{every_lfsr}
use Rattle.start.proofs.Splitting.{mixed_cells}
use Rattle.start.proofs.fed.Goals as goal
use Rattle.start.proofs.fed.Goals.{Start}

cells-row : (c : Start) → Row 16 65536 c.args.l.a
cells-row c = (every_lfsr c.args.l _ c.well_formed.0).in_a

pub returns : goal.returns
returns c =
    let a = c.args in
    let l = a.l.a in
    let r : Row 16 65536 l = cells-row (goal.at.returns c).Start in
    let low : numbers 2 8 (bytes_of c.low_half.result) ≡ take 8 l =
    ap (numbers 2 8) c.low_half.ensures ∙ numbers_littles 2 8 (take 8 l) (row_take 65536 16 r 8 (lit< tt) (lit≤ tt)) in
    let high : numbers 2 8 (bytes_of c.xor.result) ≡ xors (drop 8 l) (numbers 2 8 (bytes_of a.x)) =
    ap (numbers 2 8) (c.xor.ensures ∙ ap (λ (t : List ℕ). xors t (bytes_of a.x)) c.high_half.ensures)
    ∙ mixed_cells (drop 8 l) (bytes_of a.x) (row_drop 65536 16 r 8) (bytes_of_block a.x) in
    λ i. record { a = (c.cells-n.ensures ∙ ap₂ (λ (p q : List ℕ). p ++ q) low high) i; b = a.l.b }
