-- `fields::get` meets its contract: the number of the bytes passed, from the last down.
use Rattle.std.proofs.Common.{◌≡◌, ◌+◌, ◌-◌, ◌^◌, ◌<◌}
use Rattle.words.specs.Bytes.{number, part}
use Rattle.fields.proofs.get.Given as goal

abbrev pub invariant-loop-i : goal.invariant-loop-i
invariant-loop-i l = (l.n ≡ number (part (l.at + l.i) (l.k - l.i) l.s)) × (l.n < 256 ^ (l.k - l.i))
