-- `ghash::absorb_element` meets its contract, as `absorb_at` does.
use native.Mathlib.Omega.{arith}
use lib.ListN.{replicate}
use Rattle.ghash.specs.Machine.{bytes_of_element}
use Rattle.ghash.specs.Inner.{Read}
use Rattle.ghash.proofs.Elements.{element_block}
use Rattle.ghash.proofs.Reading.{reads}
use Rattle.ghash.proofs.Hashing.{eaten}
use borrow.Author.Rules.{rules}
use Rattle.ghash.proofs.absorb_element.Goals as goal
use Rattle.ghash.proofs.absorb_element.Goals.{After-indices}

stand : (c : After-indices) → let a = c.args in
    Read (bytes_of_element c.xor-s.result) (bytes_of_element a.h) c.indices.new.m 0 a.table.now
stand c =
    reads (replicate 32 0) _ (bytes_of_element c.xor-s.result) _ _ 0 (element_block c.xor-s.result) (search rules) c.indices.ensures c.requires

pub quarter-requires : goal.quarter-requires
quarter-requires c = (omega arith, stand (goal.at.quarter-requires c).After-indices)

pub quarter-requires-2 : goal.quarter-requires-2
quarter-requires-2 c = (omega arith, stand (goal.at.quarter-requires-2 c).After-indices)

pub quarter-requires-3 : goal.quarter-requires-3
quarter-requires-3 c = (omega arith, stand (goal.at.quarter-requires-3 c).After-indices)

pub quarter-requires-4 : goal.quarter-requires-4
quarter-requires-4 c = (omega arith, stand (goal.at.quarter-requires-4 c).After-indices)

pub returns : goal.returns
returns c =
    let a = c.args in
    eaten c.of_quarters.result c.xor-s.result a.y a.x a.h c.xor-s.ensures c.of_quarters.ensures
