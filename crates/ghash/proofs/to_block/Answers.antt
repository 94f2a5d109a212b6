-- `ghash::to_block` meets its contract: a half is two words.
use mathlib.Core.Path.{sym, ap₂, ◌∙◌}
use mathlib.Core.List.{List, ◌++◌}
use Prim.Native.Nat.{ℕ, ◌/◌, ◌%◌, ◌^◌}
use Rattle.words.specs.Machine.{bytes_of}
use Rattle.ghash.specs.Machine.{bytes_of_element}
use Rattle.ghash.proofs.Elements.{four_words, apart}
use borrow.Author.Rules.{rules}
use Rattle.ghash.proofs.to_block.Goals as goal

pub returns : goal.returns
unfolding bytes_of_element bytes_of
returns c =
    let e = c.args.e in
    four_words (e.lo % 2 ^ 32) (e.lo / 2 ^ 32) (e.hi % 2 ^ 32) (e.hi / 2 ^ 32)
    ∙ sym (ap₂ (λ (s t : List ℕ). s ++ t) (apart e.lo (search rules)) (apart e.hi (search rules)))
