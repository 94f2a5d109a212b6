-- `ghash::byte` meets its contract: the indices of byte k lead to the entries of its two halves.
use mathlib.Core.Path.{◌≡◌, ap₂, ◌∙◌}
use Prim.Native.Nat.{ℕ, ◌+◌, ◌*◌, ◌/◌, ◌%◌, ◌<◌}
use native.Mathlib.Omega.{arith}
use lib.ListN.{get_or}
use Rattle.words.specs.Xor.{◌⊕◌}
use Rattle.ghash.specs.Machine.{bytes_of_element, entry}
use Rattle.ghash.proofs.Elements.{element_block, big_sum}
use Rattle.ghash.proofs.Reading.{high_index, low_index, share_one}
use Rattle.ghash.proofs.byte.Goals as goal
use Rattle.ghash.proofs.byte.Goals.{Start}

module _ (c : Start) where
  byte_of : ℕ
  byte_of = get_or (bytes_of_element c.args.x) c.args.k 0

  high : get_or c.args.m.now (c.args.at + c.args.k) 0 ≡ byte_of / 16 * 2
  unfolding byte_of
  high = let a = c.args in high_index a.m.now (bytes_of_element a.x) a.at (element_block a.x) c.requires.1.of_s a.k c.requires.0

  low : get_or c.args.m.now (c.args.at + 16 + c.args.k) 0 ≡ byte_of % 16 * 2
  unfolding byte_of
  low = let a = c.args in low_index a.m.now (bytes_of_element a.x) a.at (element_block a.x) c.requires.1.of_s a.k c.requires.0

  small : byte_of < 256
  unfolding byte_of
  small = (element_block c.args.x).below c.args.k

pub entry-requires : goal.entry-requires
entry-requires c = let e = high (goal.at.entry-requires c).Start in let b = small (goal.at.entry-requires c).Start in omega arith

pub entry-requires-2 : goal.entry-requires-2
entry-requires-2 c = let e = low (goal.at.entry-requires-2 c).Start in let b = small (goal.at.entry-requires-2 c).Start in omega arith

pub returns : goal.returns
unfolding byte_of
returns c =
    let a = c.args in
    big_sum _ c.entry.result c.entry-2.result c.xor.ensures
    ∙ ap₂ ◌⊕◌ c.entry.ensures c.entry-2.ensures
    ∙ ap₂ (λ (i j : ℕ). entry a.table.now (64 * a.k + i) ⊕ entry a.table.now (64 * a.k + 32 + j)) (high (goal.at.returns c).Start) (low (goal.at.returns c).Start)
    ∙ share_one (bytes_of_element a.x) (bytes_of_element a.h) (element_block a.x) a.table.now a.k c.requires.1.of_h c.requires.0
