-- `cipher::run_back` meets its contract: after i turns i steps back are made, and their blocks stand at the front of the output.
use Rattle.cipher.specs.Run.{backward}
use Rattle.cipher.specs.Machine.{registers_of}
use Rattle.cipher.proofs.Running.{Made}
use Rattle.cipher.proofs.run_back.Given as goal

abbrev pub invariant-loop-i : goal.invariant-loop-i
invariant-loop-i l = Made backward (registers_of l.initial.t) l.initial.out 0 l.n l.i (registers_of l.t) l.out
