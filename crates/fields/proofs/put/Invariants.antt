-- `fields::put` meets its contract: at each turn, what is left to write would make the whole.
use Rattle.std.proofs.Common.{◌≡◌, ◌+◌, ◌-◌}
use lib.Seq.{sets}
use Rattle.words.specs.Bytes.{little}
use Rattle.fields.proofs.put.Given as goal

abbrev pub invariant-loop-i : goal.invariant-loop-i
invariant-loop-i l = sets l.out (l.at + l.i) (little (l.k - l.i) l.m) ≡ sets l.initial.out l.at (little l.k l.n)
