-- `start::uninitials` meets its contract: what is left to undo leads where the whole leads, and each step undone is counted.
use Prim.Native.Nat.{ℕ, suc, ◌+◌, ◌-◌}
use mathlib.Core.Path.{◌≡◌, sym, ap, ◌∙◌}
use native.Mathlib.Omega.{arith}
use Rattle.cipher.specs.Machine.{registers_of}
use Rattle.start.specs.Trace.{uninitials}
use Rattle.start.proofs.uninitials.Goals as goal

pub loop-i-preserved : goal.loop-i-preserved
unfolding uninitials
loop-i-preserved c =
    let l = c.loop-i in
    let k = c.args.n - (l.i + 1) in
    let e : c.args.n - l.i ≡ suc k = omega arith in (
      ap (uninitials k) c.uninitial-t.ensures ∙ ap (λ (k : ℕ). uninitials k (registers_of l.t)) (sym e) ∙ l.invariant.0,
      omega arith,
    )

pub returns : goal.returns
unfolding uninitials
returns c =
    let l = c.loop-i in
    let e : 0 ≡ c.args.n - l.i = omega arith in
    record { registers = ap (λ (k : ℕ). uninitials k (registers_of l.t)) e ∙ l.invariant.0; steps = omega arith }
