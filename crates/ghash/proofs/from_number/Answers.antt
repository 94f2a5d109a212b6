-- `ghash::from_number` meets its contract: the bytes of a half, turned, are the element's.
use mathlib.Core.Path.{ap₂, ◌∙◌}
use Prim.Native.Nat.{ℕ}
use Rattle.ghash.specs.Hash.{big}
use Rattle.ghash.specs.Machine.{bytes_of_element}
use Rattle.ghash.proofs.Elements.{of_number, swapped}
use borrow.Author.Rules.{rules}
use Rattle.ghash.proofs.from_number.Goals as goal

pub returns : goal.returns
returns c =
    let v = c.args.v in
    ap₂ (λ (x y : ℕ). big (bytes_of_element (record { lo = x; hi = y }))) (c.swap_bytes.ensures ∙ swapped v.hi) (c.swap_bytes-2.ensures ∙ swapped v.lo)
    ∙ of_number v.hi v.lo (search rules) (search rules)
