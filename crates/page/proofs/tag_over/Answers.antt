-- `page::tag_over` meets its contract: the ciphertext hashed and settled, and the tag from there.
use Prim.Native.Nat.{ℕ}
use mathlib.Core.Path.{ap, ◌∙◌}
use mathlib.Core.List.{List}
use lib.ListN.{length}
use Rattle.words.specs.Xor.{xors}
use Rattle.ghash.specs.Hash.{lengths, eat}
use Rattle.digest.specs.Sum.{Sum}
use Rattle.digest.specs.Digest.{settled}
use Rattle.session.specs.Machine.{session_of}
use Rattle.page.specs.Inner.{tag_over}
use Rattle.page.proofs.tag_over.Goals as goal

pub returns : goal.returns
unfolding tag_over
returns c =
    let a = c.args in
    let s = session_of a.s in
    let n = length a.cipher.now in
    c.tag_from.ensures
    ∙ ap (λ (x : List ℕ). xors (eat s.h x (lengths s.ad n)) s.pad)
    (c.settle_with-y.ensures ∙ ap (λ (m : Sum). settled s.h m n) c.absorb_with-e.ensures)

pub absorb_with-e-requires : goal.absorb_with-e-requires
absorb_with-e-requires c = c.requires

pub settle_with-y-requires : goal.settle_with-y-requires
settle_with-y-requires c = c.requires
