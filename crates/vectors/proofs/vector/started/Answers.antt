-- No start under a key of 32 bytes with an IV of 16 is refused.
use Rattle.std.proofs.Common.{rules}
use Rattle.scope.proofs.Refused.{accepted}
use Rattle.start.proofs.Answers.{both_right}
use Rattle.vectors.proofs.vector.started.Goals as goal

pub unwrap-requires : goal.unwrap-requires
unwrap-requires c = accepted _ _ c.start.result c.start.ensures (both_right _ _ (search rules) (search rules))
