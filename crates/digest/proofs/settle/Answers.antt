-- `digest::settle` meets its contract: `settle_with` says it where bytes are held, and else there is nothing left to hash.
use mathlib.Core.Path.{sym}
use native.Mathlib.Omega.{arith}
use Rattle.ghash.specs.Machine.{bytes_of_element}
use Rattle.digest.specs.Machine.{sum_of}
use Rattle.digest.proofs.Settling.{settled_whole}
use Rattle.digest.proofs.settle.Goals as goal

pub returns : goal.returns
returns c = let a = c.args in sym (settled_whole (bytes_of_element a.h) (sum_of a.d) a.n (omega arith))
