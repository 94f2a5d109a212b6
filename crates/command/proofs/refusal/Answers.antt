-- `command::refusal` meets its contract, by whether the number has one digit or two.
use mathlib.Core.Path.{◌≡◌}
use mathlib.Core.List.{[], ◌∷◌}
use Prim.Native.Nat.{◌+◌, ◌/◌, ◌%◌}
use native.Mathlib.Omega.{arith}
use borrow.Author.Rules.{rules}
use lib.ListN.{length}
use Rattle.command.specs.Output.{Answer.refused, ascii, printed}
use Rattle.command.proofs.Printing.{one_digit, two_digits, refused_length}
use Rattle.command.proofs.Writing.{printed_first, printed_more, printed_all}
use Rattle.command.proofs.refusal.Goals as goal

pub returns-then-number-lt10 : goal.returns-then-number-lt10
returns-then-number-lt10 c =
    let a = c.args in
    let o = a.out.now in
    let n : length o ≡ 8238 = search rules in
    printed_all o (printed (refused a.number)) (one_digit a.number c.if-number-lt10.true) (omega (arith, refused_length a.number))
    (printed_more o (ascii "refused ") ((0x30 + a.number % 10) ∷ 0x0a ∷ []) _ _ _ _
    (printed_first o (ascii "refused ") _ _ c.put-at.ensures.out c.put-at.ensures.next) c.put.ensures.out c.put.ensures.next)

pub returns : goal.returns
returns c =
    let a = c.args in
    let o = a.out.now in
    let n : length o ≡ 8238 = search rules in
    printed_all o (printed (refused a.number)) (two_digits a.number c.if-number-lt10.false) (omega (arith, refused_length a.number))
    (printed_more o (ascii "refused ") ((0x30 + a.number / 10 % 10) ∷ (0x30 + a.number % 10) ∷ 0x0a ∷ []) _ _ _ _
    (printed_first o (ascii "refused ") _ _ c.put-at.ensures.out c.put-at.ensures.next) c.put-2.ensures.out c.put-2.ensures.next)
