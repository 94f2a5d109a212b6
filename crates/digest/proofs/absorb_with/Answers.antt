-- `digest::absorb_with` meets its contract: a piece that fills a block is its head, whole blocks and tail.
use mathlib.Core.Path.{◌≡◌, sym, ap, ap₂, ◌∙◌}
use native.Mathlib.Omega.{arith}
use lib.ListN.{length}
use lib.Seq.{sets}
use Rattle.std.proofs.lemmas.Slice.{between_is}
use Rattle.words.specs.Bytes.{zeros}
use Rattle.ghash.specs.Hash.{hash_from}
use Rattle.ghash.specs.Machine.{bytes_of_element}
use Rattle.digest.specs.Machine.{sum_of}
use Rattle.digest.proofs.Pieces.{sum}
use Rattle.digest.proofs.Slices.{head_of, tail_of, absorb_parts}
use borrow.Author.Rules.{rules}
use Rattle.digest.proofs.absorb_with.Goals as goal
use Rattle.digest.proofs.absorb_with.Goals.{Start}

long : (c : Start) → length c.args.d.pending ≡ 16
long c = search rules

pub returns : goal.returns
returns c =
    let a = c.args in
    let p = a.piece.now in
    let f = head_of a.n in
    let t = tail_of a.n (length p) in
    ap₂ sum
    (c.blocks-y.ensures
    ∙ ap₂ (hash_from (bytes_of_element a.h)) c.head.ensures (between_is p f t))
    (c.keep-q.ensures ∙ ap (sets zeros 0) (between_is p t (length p)))
    ∙ sym (absorb_parts (bytes_of_element a.h) (sum_of a.d) a.n a.piece.now (long (goal.at.returns c).Start) (omega arith))
