-- `command::first` meets its contract: what stands before the first byte that is no digit are digits alone, so that this byte decides.
use mathlib.Core.Path.{◌≡◌}
use mathlib.Core.Bool.{true}
use Prim.Native.Nat.{◌<◌}
use native.Mathlib.Nat.{sub-zero}
use native.Mathlib.Omega.{arith}
use borrow.Author.Rules.{rules}
use lib.ListN.{length, get_or, take}
use Rattle.std.specs.Prelude.{None, Some}
use Rattle.std.proofs.lemmas.Iterator.{IsFirst-from_position, YieldsList-from_slice}
use Rattle.command.specs.Hex.{digit, all_digits}
use Rattle.command.proofs.Digits.{some_said, none_said}
use Rattle.command.proofs.Reading.{all_open, odd_at, over_at, line_at, no_digit_at, digits_within}
use Rattle.command.proofs.first.Goals as goal
use Rattle.command.proofs.first.Goals.{In_ok-n, then-input-n-ne10-via-then-input-n-ne10, then-input-n-ne10-via-else-input-n-ne10+then-n-ne0, then-input-n-ne10-via-else-input-n-ne10+else-n-ne0+then-n-gt-MOST_DIGITS}

found : (c : In_ok-n) → let s = c.args.input.now in let n = c.in_ok-n.n in (n < length s) × (15 < digit (get_or s n 0)) × (all_digits (take n s) ≡ true)
found c =
    let s = c.args.input.now in
    let f = IsFirst-from_position _ _ (Some c.in_ok-n.n) (λ b. 15 < digit b) (λ b. digit b < 16) c.in_ok-n.ensures.ran (YieldsList-from_slice s c.iter.ensures.rest) (λ x q k. none_said _ (search rules)) (λ x q k. (search rules, some_said _ (search rules))) in
    (f.0, f.1 0, digits_within s _ (omega (arith, f.0)) f.2)

pub returns-in_err-n : goal.returns-in_err-n
returns-in_err-n c =
    let s = c.args.input.now in
    let f = IsFirst-from_position _ _ None (λ b. 15 < digit b) (λ b. digit b < 16) c.in_err-n.ensures.ran (YieldsList-from_slice s c.iter.ensures.rest) (λ x q k. none_said _ (search rules)) (λ x q k. (search rules, some_said _ (search rules))) in
    rw c.from_residual.ensures (all_open s (length s) (omega arith) (digits_within s (length s) (omega arith) f))

pub returns-then-input-n-ne10 : goal.returns-then-input-n-ne10
returns-then-input-n-ne10 c =
    let f = found (goal.at.returns-then-input-n-ne10 c).In_ok-n in
    elim c.then-input-n-ne10.branch [
      | then-input-n-ne10-via-then-input-n-ne10 w ↦ no_digit_at _ _ f.0 f.2 w.if-input-n-ne10.true f.1
      | then-input-n-ne10-via-else-input-n-ne10+then-n-ne0 w ↦ odd_at _ _ f.0 f.2 w.if-input-n-ne10.false w.if-n-ne0.true
      | then-input-n-ne10-via-else-input-n-ne10+else-n-ne0+then-n-gt-MOST_DIGITS w ↦ over_at _ _ f.0 f.2 w.if-input-n-ne10.false w.if-n-ne0.false w.if-n-gt-MOST_DIGITS.true
    ]

pub returns : goal.returns
returns c =
    let f = found (goal.at.returns c).In_ok-n in
    rw (sub-zero c.in_ok-n.n) (line_at _ _ f.0 f.2 c.if-input-n-ne10.false c.if-n-ne0.false c.if-n-gt-MOST_DIGITS.false)
