-- By the law of a repeat's length: the million elements are never written out.
use Rattle.std.proofs.Common.{ℕ, sym}
use Rattle.std.proofs.lemmas.List.{length-replicate}
use Rattle.dumps.proofs.dump.room.Goals as goal

pub returns : goal.returns
returns c = sym (length-replicate {A = ℕ} 1048608 0)
