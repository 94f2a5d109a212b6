-- `command::line_from` meets its contract: the first line of what is left from a place on, in the places of the whole.
use mathlib.Core.Path.{◌≡◌, sym, subst, ◌∙◌}
use mathlib.Core.List.{List}
use Prim.Native.Nat.{ℕ, ◌+◌}
use native.Mathlib.Omega.{arith}
use lib.ListN.{drop}
use Rattle.std.specs.Prelude.{Some}
use Rattle.command.specs.Lines.{first_line}
use Rattle.command.specs.Machine.{line_of}
use Rattle.command.proofs.Taken.{left_from, moved, inside}
use Rattle.command.proofs.line_from.Goals as goal

pub overflow_add-result : goal.overflow_add-result
overflow_add-result c =
    let a = c.args in
    let s = a.input.now in
    let n = c.in_ok-first.field-0 in
    let e : line_of (drop a.at s) 0 (Some n) ≡ first_line (drop a.at s) = subst (λ (t : List ℕ). line_of t 0 (Some n) ≡ first_line t) (left_from s a.at) c.in_ok-first.ensures in
    omega (arith, inside s a.at (a.at + n) (sym (moved s a.at n) ∙ e))
