-- `ghash::lengths` meets its contract: eight bytes hold a length in bits modulo 2^64.
use mathlib.Core.Path.{ap₂, ◌∙◌}
use Prim.Native.Nat.{ℕ}
use Rattle.ghash.specs.Machine.{bytes_of_element}
use Rattle.ghash.proofs.Elements.{of_lengths, swapped}
use Rattle.ghash.proofs.lengths.Goals as goal

pub returns : goal.returns
returns c =
    let a = c.args in
    ap₂ (λ (x y : ℕ). bytes_of_element (record { lo = x; hi = y })) (c.swap_bytes.ensures ∙ swapped _) (c.swap_bytes-2.ensures ∙ swapped _) ∙ of_lengths a.ad a.text
