-- `fields::cells` meets its contract: at each turn, the cells left to read would make the whole.
use Rattle.std.proofs.Common.{◌≡◌, ◌+◌, ◌-◌, ◌*◌, length, drop}
use lib.Seq.{sets}
use Rattle.words.specs.Bytes.{numbers, part}
use Rattle.fields.proofs.cells.Given as goal

abbrev pub invariant-loop-i : goal.invariant-loop-i
invariant-loop-i l = (length l.r ≡ 16) × (sets l.r l.i (numbers 2 (16 - l.i) (drop (l.at + 2 * l.i) l.s)) ≡ numbers 2 16 (part l.at 32 l.s))
