-- `command::decode` meets its contract: each turn takes two digits, and the line's length is even, so that there is always a second.
use Prim.Native.Nat.{ℕ, ◌+◌, ◌*◌, ◌%◌}
use mathlib.Core.Path.{◌≡◌, refl}
use mathlib.Core.List.{[], ◌∷◌}
use native.Mathlib.Omega.{arith}
use lib.ListN.{length, get_or}
use Rattle.words.proofs.Writing.{written_none, written_more, written_all}
use Rattle.command.specs.Hex.{digit, bytes_of}
use Rattle.command.proofs.Digits.{Digits, digits_there, two_digits, is_said, said_is}
use Rattle.command.proofs.Reading.{formed_digits, formed_even}
use Rattle.command.proofs.decode.Goals as goal
use Rattle.command.proofs.decode.Goals.{In-loop-i}

pub loop-i-init : goal.loop-i-init
loop-i-init c = let a = c.args in (formed_digits a.line.now c.requires.formed, written_none bytes_of a.line.now a.out.now 0)

both : (c : In-loop-i) → Digits c.args.line.now (2 * c.loop-i.i)
both c = digits_there c.args.line.now (2 * c.loop-i.i) (omega arith) c.loop-i.invariant.0

pub unwrap-requires : goal.unwrap-requires
unwrap-requires c = is_said _ _ (both (goal.at.unwrap-requires c).In-loop-i).0 c.digit.ensures

pub unwrap-requires-in-loop-i : goal.unwrap-requires-in-loop-i
unwrap-requires-in-loop-i c = is_said _ _ (both (goal.at.unwrap-requires-in-loop-i c).In-loop-i).1 c.digit-in-loop-i.ensures

pub overflow_mul-out : goal.overflow_mul-out
overflow_mul-out c =
    let d = both (goal.at.overflow_mul-out c).In-loop-i in
    omega (arith, d.0, said_is _ _ _ d.0 c.digit.ensures c.unwrap.ensures)

pub overflow_add-out : goal.overflow_add-out
overflow_add-out c =
    let d = both (goal.at.overflow_add-out c).In-loop-i in
    omega (arith, d.0, d.1, said_is _ _ _ d.0 c.digit.ensures c.unwrap.ensures, said_is _ _ _ d.1 c.digit-in-loop-i.ensures c.unwrap-in-loop-i.ensures)

pub loop-i-preserved : goal.loop-i-preserved
loop-i-preserved c =
    let a = c.args in
    let i = c.loop-i.i in
    let s = a.line.now in
    let d = both (goal.at.loop-i-preserved c).In-loop-i in
    let b : ℕ = c.unwrap.result * 16 + c.unwrap-in-loop-i.result in
    let e : b ≡ digit (get_or s (2 * i) 0) * 16 + digit (get_or s (2 * i + 1) 0) = omega (arith, said_is _ _ _ d.0 c.digit.ensures c.unwrap.ensures, said_is _ _ _ d.1 c.digit-in-loop-i.ensures c.unwrap-in-loop-i.ensures) in
    let n : 2 * (i + 1) ≡ 2 * i + 2 = omega arith in
    rw n (d.2, written_more bytes_of s a.out.now 0 (2 * i) (2 * i + 2) i (i + 1) c.loop-i.out (b ∷ []) (rw e (two_digits s (2 * i) (omega arith))) refl c.loop-i.invariant.1)

pub returns : goal.returns
unfolding bytes_of
returns c =
    let a = c.args in
    let even : length a.line.now % 2 ≡ 0 = formed_even a.line.now c.requires.formed in
    let w = written_all bytes_of a.line.now a.out.now 0 (2 * c.loop-i.i) c.loop-i.i c.loop-i.out refl (omega arith) c.loop-i.invariant.1 in
    record { out = w.0; count = omega (arith, w.1) }
