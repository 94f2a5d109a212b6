-- `session::tag` meets its contract: the data closed, the text settled, and the tag from there.
use Prim.Native.Nat.{ℕ}
use mathlib.Core.Path.{ap, ◌∙◌}
use mathlib.Core.List.{List}
use Rattle.words.specs.Xor.{xors}
use Rattle.ghash.specs.Hash.{lengths, eat}
use Rattle.digest.specs.Digest.{settled}
use Rattle.session.specs.Session.{Session}
use Rattle.session.specs.Pieces.{tag_of}
use Rattle.session.specs.Machine.{session_of}
use Rattle.session.proofs.tag.Goals as goal

pub returns : goal.returns
unfolding tag_of
returns c =
    let s = session_of c.args.s in
    c.to_bytes.ensures ∙ c.tag_from.ensures
    ∙ ap (λ (x : List ℕ). xors (eat s.h x (lengths s.ad s.text)) s.pad)
    (c.settle_with-y.ensures ∙ ap (λ (v : Session). settled s.h v.sum s.text) c.close_with-u.ensures)

pub close_with-u-requires : goal.close_with-u-requires
close_with-u-requires c = c.fill.ensures

pub settle_with-y-requires : goal.settle_with-y-requires
settle_with-y-requires c = c.fill.ensures

pub tag_from-requires : goal.tag_from-requires
tag_from-requires c = c.fill.ensures
