-- `command::answer` meets its contract, by the three ways out: the input is malformed, the seal is refused, the seal is done.
use mathlib.Core.Path.{◌≡◌, sym, ap, subst, ◌∙◌}
use mathlib.Core.List.{List}
use Prim.Native.Nat.{ℕ}
use Rattle.command.specs.Output.{Answer.refused, answer_to, printed}
use Rattle.command.specs.Machine.{lines_of, answer_of, Prints}
use Rattle.command.proofs.Printing.{answered}
use Rattle.command.proofs.answer.Goals as goal
use Rattle.command.proofs.answer.Goals.{In-Ok}

-- what is printed of a refusal, whose number n is k
numbered : {before after : List ℕ} {r : ℕ} {n k : ℕ} → n ≡ k → Prints (printed (refused n)) before after r → Prints (printed (refused k)) before after r
numbered {before} {after} {r} e h = subst (λ (m : ℕ). Prints (printed (refused m)) before after r) e h

pub returns-in_default : goal.returns-in_default
returns-in_default c =
    let s = c.args.input.now in
    answered s (refused 11) (ap answer_to (sym c.four.ensures.lines ∙ ap (lines_of s) c.in_default.is)) (numbered c.number.ensures c.refusal.ensures)

pub returns-in_default-sealed : goal.returns-in_default-sealed
returns-in_default-sealed c =
    answered c.args.input.now _ (sym c.seal_lines-sealed.ensures.answer ∙ ap (answer_of c.seal_lines-sealed.new.cipher) c.unwrap_err.ensures)
    (numbered c.number-in_default-sealed.ensures c.refusal-in_default-sealed.ensures)

pub returns : goal.returns
returns c =
    answered c.args.input.now _ (sym c.seal_lines-sealed.ensures.answer ∙ ap (answer_of c.seal_lines-sealed.new.cipher) c.in-Ok.is) c.two_lines.ensures
