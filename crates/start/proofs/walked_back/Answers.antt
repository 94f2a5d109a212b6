-- `start::walked_back` meets its contract: after i turns i steps are undone, and counted.
use Prim.Native.Nat.{ℕ}
use mathlib.Core.Path.{◌≡◌, refl, sym, ap, ◌∙◌}
use native.Mathlib.Omega.{arith}
use native.Mathlib.Numerals.{add-one}
use Rattle.cipher.specs.Run.{backward, move, moves}
use Rattle.cipher.specs.Machine.{registers_of}
use Rattle.start.proofs.walked_back.Goals as goal

pub loop-i-init : goal.loop-i-init
unfolding moves
loop-i-init c = (refl, omega arith)

pub loop-i-preserved : goal.loop-i-preserved
unfolding moves
loop-i-preserved c = (
  c.backward-w.ensures.registers ∙ ap (move backward) c.loop-i.invariant.0 ∙ ap (λ (k : ℕ). moves backward k (registers_of c.args.s)) (sym (add-one c.loop-i.i)),
  omega arith,
)

pub returns : goal.returns
returns c =
    let e : c.loop-i.i ≡ c.args.n = omega arith in
    record {
      registers = c.loop-i.invariant.0 ∙ ap (λ (k : ℕ). moves backward k (registers_of c.args.s)) e;
      steps = omega arith;
    }
