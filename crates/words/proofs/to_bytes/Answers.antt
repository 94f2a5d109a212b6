-- `words::to_bytes` meets its contract: what is written over 16 bytes is all that stands there.
use Rattle.std.proofs.Common.{◌∙◌}
use Rattle.words.specs.Bytes.{zeros}
use Rattle.words.specs.Machine.{bytes_of}
use Rattle.words.proofs.Blocks.{bytes_of_block}
use Rattle.words.proofs.Writing.{put_whole}
use Rattle.words.proofs.to_bytes.Goals as goal

pub returns : goal.returns
returns c = c.store.ensures ∙ put_whole zeros (bytes_of c.args.x) (bytes_of_block c.args.x).long
