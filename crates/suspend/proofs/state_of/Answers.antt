-- `suspend::state_of` meets its contract.
use mathlib.Core.Path.{ap}
use Prim.Native.Nat.{ℕ, ◌+◌}
use Rattle.cipher.specs.Machine.{registers_of}
use Rattle.suspend.proofs.state_of.Goals as goal

pub returns : goal.returns
returns c =
    let k = c.args.k in
    let e = ap (λ (n : ℕ). 2 + n) c.ceil16.ensures in
    λ i. record { registers = registers_of k.registers; count = e i }
