-- `command::encode` meets its contract: each turn writes the two digits of a byte.
use Prim.Native.Nat.{◌+◌, ◌*◌}
use Rattle.words.proofs.Writing.{Written}
use Rattle.command.specs.Hex.{hex_of}
use Rattle.command.proofs.encode.Given as goal

abbrev pub invariant-loop-i : goal.invariant-loop-i
invariant-loop-i l = Written hex_of l.bytes l.initial.out l.at l.i (l.at + 2 * l.i) l.out
