-- `fields::check` meets its contract: the sum so far, and the words left to add, make the check.
use Rattle.std.proofs.Common.{◌≡◌, ◌+◌, ◌-◌, ◌*◌, ◌%◌, ◌^◌, ◌<◌, drop}
use Rattle.words.specs.Bytes.{numbers}
use Rattle.fields.specs.Fields.{total, check}
use Rattle.fields.proofs.check.Given as goal

abbrev pub invariant-loop-i : goal.invariant-loop-i
invariant-loop-i l = (l.sum < 2 ^ 32) × ((l.sum + total (numbers 4 (127 - l.i) (drop (4 * l.i) l.s))) % 2 ^ 32 ≡ check l.s)
