-- `digest::head` meets its contract: the bytes held and those that fill the block are one block, and before a block's first byte there are none.
use mathlib.Core.Path.{◌≡◌, sym, ap, ◌∙◌}
use Prim.Native.Nat.{ℕ, ◌-◌, ◌%◌}
use native.Mathlib.Omega.{arith}
use lib.ListN.{length}
use lib.Seq.{sets, slice, take_all}
use Rattle.ghash.specs.Hash.{eat}
use Rattle.ghash.specs.Machine.{bytes_of_element}
use Rattle.ghash.proofs.Hashing.{hash_none}
use Rattle.digest.proofs.Slices.{block_used}
use borrow.Author.Rules.{rules}
use Rattle.digest.proofs.head.Goals as goal
use Rattle.digest.proofs.head.Goals.{After-keep-q, Start}

pub returns-then-at-eq0 : goal.returns-then-at-eq0
returns-then-at-eq0 c = let a = c.args in rw c.if-at-eq0.true (sym (hash_none (bytes_of_element a.h) (bytes_of_element a.d.acc)))

long : (c : Start) → length c.args.d.pending ≡ 16
long c = search rules

long_q : (c : After-keep-q) → length c.keep-q.result ≡ 16
long_q c = search rules

pub returns : goal.returns
returns c =
    let a = c.args in
    let n : 16 - a.at ≡ (16 - a.at) % 16 = omega arith in
    let e = long_q (goal.at.returns c).After-keep-q in
    c.absorb.ensures
    ∙ ap (eat (bytes_of_element a.h) (bytes_of_element a.d.acc))
    (c.load.ensures ∙ take_all 16 c.keep-q.result (omega arith) ∙ c.keep-q.ensures
    ∙ ap (λ (i : ℕ). sets a.d.pending a.at (slice 0 i a.piece.now)) n)
    ∙ block_used (bytes_of_element a.h) (bytes_of_element a.d.acc) a.d.pending a.piece.now a.at (long (goal.at.returns c).Start) c.if-at-eq0.false
    c.requires.0 c.requires.1
