-- `session::lent::begin_with` meets its contract: a start in sealed mode, and two steps.
use mathlib.Core.List.{List}
use mathlib.Core.Path.{sym, ap₂, ◌∙◌}
use Prim.Native.Nat.{ℕ}
use Rattle.std.proofs.lemmas.Result.{err_from_is_err_and}
use Rattle.cipher.specs.State.{State}
use Rattle.start.proofs.Answers.{lengths_right}
use Rattle.session.specs.Calls.{begun_from, begin_call}
use Rattle.session.proofs.Beginning.{granted_session}
use Rattle.session.proofs.lent.begin_with.Goals as goal

pub carried-requires : goal.carried-requires
carried-requires c = (lengths_right _ _ (sym c.in_ok-s.ensures.0)).1

pub returns-in_err-s : goal.returns-in_err-s
unfolding begin_call
returns-in_err-s c = let p = err_from_is_err_and c.from_residual.result c.from_residual.ensures.1 in rw (p.1, p.2) c.in_err-s.ensures

pub returns : goal.returns
unfolding begin_call
returns c =
    let a = c.args in
    let e = sym c.in_ok-s.ensures.0 in (
      sym e,
      c.opened.ensures
          ∙ ap₂ (λ (u : State) (v : List ℕ). begun_from (record { registers = u.registers; count = 0 }) v) c.in_ok-s.ensures.1 c.carried.ensures
          ∙ sym (granted_session a.key.now a.iv.now e),
    )
