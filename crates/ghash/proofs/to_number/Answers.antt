-- `ghash::to_number` meets its contract: the bytes of a half, turned, are the number's.
use mathlib.Core.Path.{ap₂, ◌∙◌}
use Prim.Native.Nat.{ℕ, ◌+◌, ◌*◌, ◌^◌}
use Rattle.ghash.proofs.Elements.{number_of, swapped}
use Rattle.ghash.proofs.to_number.Goals as goal

pub returns : goal.returns
returns c =
    let e = c.args.e in
    ap₂ (λ (x y : ℕ). x * 2 ^ 64 + y) (c.swap_bytes.ensures ∙ swapped e.lo) (c.swap_bytes-2.ensures ∙ swapped e.hi) ∙ number_of e
