-- `bytes_c::put_drawn` meets its contract: the blocks are written one behind the other.
use mathlib.Core.Path.{ap, ◌∙◌}
use lib.Seq.{sets}
use Rattle.words.specs.Machine.{bytes_of}
use Rattle.words.proofs.Blocks.{bytes_of_block}
use Rattle.ghash.proofs.Elements.{element_block}
use Rattle.suspended.proofs.Placing.{put_three}
use Rattle.bytes_c.proofs.put_drawn.Goals as goal

pub returns : goal.returns
returns c =
    let a = c.args in
    let out = a.out.now in
    put_three out 144 (element_block a.h) (bytes_of a.pad) (c.store.ensures ∙ ap (sets out 144) c.to_block.ensures) c.store-2.ensures (bytes_of_block a.pad) (bytes_of a.current) c.store-3.ensures
