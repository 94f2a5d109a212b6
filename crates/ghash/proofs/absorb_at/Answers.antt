-- `ghash::absorb_at` meets its contract: the step of the definition, on bytes. The indices that are written are those that the quarters are read by.
use Prim.Native.Nat.{ℕ, ◌+◌, ◌≤◌}
use mathlib.Core.Path.{ap, ◌∙◌}
use mathlib.Core.List.{List}
use native.Mathlib.Omega.{arith}
use lib.ListN.{length}
use lib.Seq.{sets}
use Rattle.ghash.specs.Machine.{bytes_of_element}
use Rattle.ghash.specs.Inner.{indices, Read}
use Rattle.ghash.proofs.Elements.{element_block}
use Rattle.ghash.proofs.Reading.{reads}
use Rattle.ghash.proofs.Hashing.{eaten}
use Rattle.ghash.proofs.absorb_at.Goals as goal
use Rattle.ghash.proofs.absorb_at.Goals.{After-indices}

stand : (c : After-indices) → let a = c.args in
    Read (bytes_of_element c.xor-s.result) (bytes_of_element a.h) c.indices.new.m a.at a.table.now
stand c =
    let n : c.args.at + 32 ≤ length c.args.m.now = omega arith in
    reads c.args.m.now _ (bytes_of_element c.xor-s.result) _ _ c.args.at (element_block c.xor-s.result) n c.indices.ensures c.requires.0

pub quarter-requires : goal.quarter-requires
quarter-requires c = (omega arith, stand (goal.at.quarter-requires c).After-indices)

pub quarter-requires-2 : goal.quarter-requires-2
quarter-requires-2 c = (omega arith, stand (goal.at.quarter-requires-2 c).After-indices)

pub quarter-requires-3 : goal.quarter-requires-3
quarter-requires-3 c = (omega arith, stand (goal.at.quarter-requires-3 c).After-indices)

pub quarter-requires-4 : goal.quarter-requires-4
quarter-requires-4 c = (omega arith, stand (goal.at.quarter-requires-4 c).After-indices)

pub returns : goal.returns
returns c =
    record { hash = eaten c.of_quarters.result c.xor-s.result c.args.y c.args.x c.args.h c.xor-s.ensures c.of_quarters.ensures; scratch = c.indices.ensures ∙ ap (λ (l : List ℕ). sets c.args.m.now c.args.at (indices l)) c.xor-s.ensures }
