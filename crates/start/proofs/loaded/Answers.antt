-- `start::loaded` meets its contract: one step is undone, then fifteen.
use Prim.Native.Nat.{ℕ}
use mathlib.Core.Path.{sym, ap, ap₂, ◌∙◌}
use mathlib.Core.List.{List}
use native.Mathlib.Omega.{arith}
use Rattle.cipher.specs.Machine.{registers_of}
use Rattle.start.specs.Start.{into_r1}
use Rattle.start.specs.Trace.{uninitial, uninitials, loaded}
use Rattle.start.proofs.Splitting.{key_low, key_high}
use Rattle.start.proofs.loaded.Goals as goal

pub returns : goal.returns
unfolding loaded uninitials
returns c =
    let a = c.args in
    record {
      registers =
          c.uninitials.ensures.registers
          ∙ ap (uninitials 15) (c.into_r1-2.ensures ∙ ap₂ into_r1 (sym (key_low a.low a.high)) (c.uninitials-w.ensures.registers
          ∙ ap uninitial (c.into_r1.ensures ∙ ap (λ (x : List ℕ). into_r1 x (registers_of a.s)) (sym (key_high a.low a.high)))));
      steps = omega (arith, c.uninitials.ensures.steps, c.uninitials-w.ensures.steps);
    }
