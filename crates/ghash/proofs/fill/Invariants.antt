-- `ghash::fill` meets its contract: the loop goes from the leftmost place to the rightmost.
use Rattle.ghash.specs.Inner.{number_of}
use Rattle.ghash.proofs.Filling.{Filled}
use Rattle.ghash.proofs.fill.Given as goal

abbrev pub invariant-loop-p : goal.invariant-loop-p
invariant-loop-p l = Filled (number_of l.initial.v) (number_of l.v) l.p l.table
