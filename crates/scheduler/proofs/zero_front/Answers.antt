-- `scheduler::zero_front` meets its contract: zeros written at the front.
use mathlib.Core.Path.{◌∙◌}
use lib.ListN.{replicate, length-replicate}
use Rattle.words.proofs.Writing.{put_front}
use Rattle.scheduler.specs.Bytes.{zeroed}
use Rattle.scheduler.proofs.zero_front.Goals as goal

pub returns : goal.returns
unfolding zeroed
returns c =
    let a = c.args in
    c.clear.ensures ∙ put_front a.s.now (replicate a.k 0) a.k (length-replicate a.k 0) c.requires.0
