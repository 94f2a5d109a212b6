-- `fields::all_zero` meets its contract: what has been seen, and what is left to see, make the answer.
use Rattle.std.proofs.Common.{◌≡◌, ◌&&◌, drop}
use Rattle.words.specs.Bytes.{part}
use Rattle.fields.specs.Fields.{all_zero}
use Rattle.fields.proofs.all_zero.Given as goal

abbrev pub invariant-loop-b : goal.invariant-loop-b
invariant-loop-b l = (l.all && all_zero (drop l.b-index (part l.at l.k l.s))) ≡ all_zero (part l.at l.k l.s)
