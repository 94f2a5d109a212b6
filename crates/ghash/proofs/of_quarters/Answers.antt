-- `ghash::of_quarters` meets its contract: the quarters, summed two by two, are the share of all 16 bytes, which is the product.
use mathlib.Core.Path.{◌∙◌}
use native.Mathlib.Omega.{arith}
use Rattle.ghash.specs.Machine.{bytes_of_element}
use Rattle.ghash.proofs.Elements.{element_block}
use Rattle.ghash.proofs.Reading.{share_all, four_shares}
use Rattle.ghash.proofs.of_quarters.Goals as goal

pub returns : goal.returns
returns c =
    let a = c.args in
    let q = c.requires in
    four_shares a.x a.h _ c.xor.result c.xor-2.result a.a a.b a.c a.d 0 4 (omega arith)
    c.xor.ensures c.xor-2.ensures c.xor-3.ensures q.first q.second q.third q.fourth
    ∙ share_all (bytes_of_element a.x) (bytes_of_element a.h) (element_block a.x)
