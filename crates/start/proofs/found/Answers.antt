-- `start::found` meets its contract.
use Prim.Native.Nat.{ℕ}
use mathlib.Core.Path.{ap}
use mathlib.Core.List.{List}
use Rattle.start.specs.Leads.{Traced.origin}
use Rattle.start.proofs.Splitting.{halves_bytes}
use Rattle.start.specs.Machine.{mode_of}
use Rattle.start.proofs.found.Goals as goal

pub returns : goal.returns
returns c =
    let a = c.args in
    ap (λ (l : List ℕ). origin l (mode_of a.mode)) (halves_bytes a.iv _ _ c.join.ensures c.join-2.ensures)
