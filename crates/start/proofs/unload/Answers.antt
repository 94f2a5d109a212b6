-- `start::unload` meets its contract, by the mode that the tests find.
use Prim.Native.Nat.{ℕ}
use mathlib.Core.Path.{sym, ap, ◌∙◌}
use mathlib.Core.List.{List}
use Rattle.cipher.specs.Machine.{registers_of}
use Rattle.start.specs.Start.{Mode.plain, Mode.sealed}
use Rattle.start.specs.Leads.{Traced.origin}
use Rattle.start.proofs.Splitting.{in_plain, in_sealed, in_neither}
use Rattle.start.proofs.unload.Goals as goal

pub returns-then-loads : goal.returns-then-loads
returns-then-loads c =
    let a = c.args in
    c.found.ensures ∙ ap (λ (v : List ℕ). origin v plain) c.low_half-iv.ensures
    ∙ in_plain _ (registers_of a.s) (sym c.loads.ensures ∙ c.if-loads.true)

pub returns-then-loads-2 : goal.returns-then-loads-2
returns-then-loads-2 c =
    let a = c.args in
    c.found-then-loads-2.ensures ∙ ap (λ (v : List ℕ). origin v sealed) c.low_half-iv.ensures
    ∙ in_sealed _ (registers_of a.s) (sym c.loads.ensures ∙ c.if-loads.false) (sym c.loads-2.ensures ∙ c.if-loads-2.true)

pub returns : goal.returns
returns c =
    let a = c.args in
    in_neither _ (registers_of a.s) (sym c.loads.ensures ∙ c.if-loads.false) (sym c.loads-2.ensures ∙ c.if-loads-2.false)
