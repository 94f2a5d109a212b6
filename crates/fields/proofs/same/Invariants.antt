-- `fields::same` meets its contract: what has been seen, and what is left to see, make the answer.
use Rattle.std.proofs.Common.{◌≡◌, ◌+◌, ◌-◌, ◌&&◌, length, drop}
use Rattle.words.specs.Bytes.{same, part}
use Rattle.fields.proofs.same.Given as goal

abbrev pub invariant-loop-i : goal.invariant-loop-i
invariant-loop-i l = (l.all && same (part (l.at + l.i) (length l.t - l.i) l.s) (drop l.i l.t)) ≡ same (part l.at (length l.t) l.s) l.t
