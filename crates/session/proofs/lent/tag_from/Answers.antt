-- `session::lent::tag_from` meets its contract.
use Prim.Native.Nat.{ℕ}
use mathlib.Core.Path.{ap, ◌∙◌}
use mathlib.Core.List.{List}
use Rattle.words.specs.Xor.{xors}
use Rattle.words.specs.Machine.{bytes_of}
use Rattle.ghash.specs.Hash.{eat}
use Rattle.ghash.specs.Machine.{bytes_of_element}
use Rattle.session.proofs.lent.tag_from.Goals as goal

pub returns : goal.returns
returns c =
    let a = c.args in
    c.xor.ensures
    ∙ ap (λ (x : List ℕ). xors x (bytes_of a.s.pad))
    (c.to_block.ensures ∙ c.absorb_element-v.ensures ∙ ap (eat (bytes_of_element a.s.h) (bytes_of_element a.y)) c.lengths.ensures)

pub absorb_element-v-requires : goal.absorb_element-v-requires
absorb_element-v-requires c = c.requires
