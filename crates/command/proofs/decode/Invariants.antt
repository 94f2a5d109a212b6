-- `command::decode` meets its contract: each turn takes two digits, and the line's length is even, so that there is always a second.
use Prim.Native.Nat.{◌*◌}
use mathlib.Core.Path.{◌≡◌}
use mathlib.Core.Bool.{true}
use lib.ListN.{drop}
use Rattle.words.proofs.Writing.{Written}
use Rattle.command.specs.Hex.{all_digits, bytes_of}
use Rattle.command.proofs.decode.Given as goal

abbrev pub invariant-loop-i : goal.invariant-loop-i
invariant-loop-i l = (all_digits (drop (2 * l.i) l.line) ≡ true) × Written bytes_of l.line l.initial.out 0 (2 * l.i) l.i l.out
