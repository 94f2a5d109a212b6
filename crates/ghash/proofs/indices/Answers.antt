-- `ghash::indices` meets its contract: the two blocks of indices one behind the other.
use mathlib.Core.Path.{◌≡◌, ap, ◌∙◌}
use Prim.Native.Nat.{◌+◌}
use native.Mathlib.Omega.{arith}
use lib.ListN.{length, length-map}
use lib.Seq.{sets}
use Rattle.words.proofs.Writing.{put_next}
use Rattle.ghash.specs.Machine.{bytes_of_element}
use Rattle.ghash.specs.Inner.{highs, lows, indices}
use Rattle.ghash.proofs.Elements.{element_block}
use Rattle.ghash.proofs.Reading.{low_bytes, high_bytes}
use Rattle.ghash.proofs.indices.Goals as goal

pub returns : goal.returns
unfolding indices
returns c =
    let a = c.args in
    let s = bytes_of_element a.x in
    let n : length (highs s) ≡ 16 = length-map s _ ∙ (element_block a.x).long in
    put_next a.m.now (highs s) (lows s) a.at (a.at + 16) (omega arith)
    (c.store.ensures ∙ ap (sets a.m.now a.at) (c.to_block.ensures ∙ high_bytes _ a.x c.twice_low.ensures c.twice_low-2.ensures))
    (c.store-2.ensures ∙ ap (sets _ (a.at + 16)) (c.to_block-2.ensures ∙ low_bytes _ a.x c.twice_low-3.ensures c.twice_low-4.ensures))
