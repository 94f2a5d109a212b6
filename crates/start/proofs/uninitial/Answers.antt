-- `start::uninitial` meets its contract: what the step back goes by is the same with z in a8 to a15 and without it.
use Prim.Native.Nat.{ℕ}
use mathlib.Core.Path.{ap, ◌∙◌}
use mathlib.Core.List.{List}
use Rattle.cipher.specs.Back.{back}
use Rattle.cipher.specs.Machine.{registers_of}
use Rattle.start.specs.Start.{into_a}
use Rattle.start.specs.Trace.{uninitial}
use Rattle.start.proofs.Undo.{precedes_a}
use Rattle.start.proofs.uninitial.Goals as goal

pub registers_before-requires : goal.registers_before-requires
registers_before-requires c =
    precedes_a _ _ _ _ c.into_a.ensures c.z_before-p.ensures

pub returns : goal.returns
unfolding uninitial
returns c =
    c.registers_before.ensures
    ∙ ap back (c.into_a.ensures ∙ ap (λ (x : List ℕ). into_a x (registers_of c.args.s)) c.z_before-p.ensures.z)
