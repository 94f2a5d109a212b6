-- `pass::under` meets its contract: at each byte, what is left to write makes the whole, in the bytes held and in the output.
use Prim.Native.Nat.{◌+◌, ◌-◌, ◌≤◌}
use mathlib.Core.Path.{◌≡◌}
use lib.ListN.{length, drop}
use lib.Seq.{sets, slice}
use Rattle.words.specs.Xor.{xors}
use Rattle.pass.proofs.under.Given as goal

abbrev pub invariant-loop-i : goal.invariant-loop-i
invariant-loop-i l =
    (l.from ≤ l.i) × (l.i ≤ l.to) × (length l.out ≡ length l.initial.out) × (length l.q ≡ 16)
    × (sets l.q (l.at + (l.i - l.from)) (xors (slice l.i l.to l.piece) (drop (l.at + (l.i - l.from)) l.key)) ≡ sets l.initial.q l.at (xors (slice l.from l.to l.piece) (drop l.at l.key)))
    × (sets l.out l.i (xors (slice l.i l.to l.piece) (drop (l.at + (l.i - l.from)) l.key)) ≡ sets l.initial.out l.from (xors (slice l.from l.to l.piece) (drop l.at l.key)))
