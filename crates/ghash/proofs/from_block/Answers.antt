-- `ghash::from_block` meets its contract: a half is two words.
use mathlib.Core.Path.{sym, ap₂, ◌∙◌}
use mathlib.Core.List.{List, ◌++◌}
use Prim.Native.Nat.{ℕ}
use Rattle.words.specs.Machine.{bytes_of}
use Rattle.ghash.specs.Machine.{bytes_of_element}
use Rattle.ghash.proofs.Elements.{four_words}
use Rattle.ghash.proofs.from_block.Goals as goal

pub returns : goal.returns
unfolding bytes_of_element bytes_of
returns c =
    let b = c.args.b in
    ap₂ (λ (s t : List ℕ). s ++ t) c.join.ensures c.join-2.ensures ∙ sym (four_words b.w0 b.w1 b.w2 b.w3)
