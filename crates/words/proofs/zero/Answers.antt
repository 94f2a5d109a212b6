-- `words::zero` meets its contract.
use Rattle.std.proofs.Common.{refl}
use Rattle.words.specs.Bytes.{little, littles}
use Rattle.words.specs.Machine.{bytes_of}
use Rattle.words.proofs.zero.Goals as goal

pub returns : goal.returns
unfolding bytes_of littles little
returns c = refl
