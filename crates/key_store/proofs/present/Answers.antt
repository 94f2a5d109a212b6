-- `key_store::present` meets its contract: at each turn, what is known is known of the blocks up to there.
use Rattle.std.proofs.Common.{◌≡◌, ℕ, not, List, ap, ◌∙◌, arith}
use Rattle.words.specs.Bytes.{same}
use Rattle.words.specs.Machine.{bytes_of}
use Rattle.fields.specs.Blocks.{cut}
use Rattle.key_store.specs.Store.{present, any}
use Rattle.key_store.specs.declared.Mark.TheVariants.{Empty}
use Rattle.key_store.proofs.Surveying.{mark_is, present_none, present_more}
use Rattle.key_store.proofs.present.Goals as goal

pub loop-i-init : goal.loop-i-init
loop-i-init c = let a = c.args in present_none (bytes_of a.iv) a.store.now

pub loop-i-preserved : goal.loop-i-preserved
loop-i-preserved c =
    let l = c.loop-i in
    let a = c.args in
    present_more (bytes_of a.iv) a.store.now l.i l.invariant
    (c.ne.ensures ∙ ap not (mark_is a.store.now l.i c.read.result Empty c.read.ensures))
    (c.same-same.ensures ∙ ap (λ (v : List ℕ). same v (bytes_of a.iv)) c.load.ensures)

pub returns : goal.returns
returns c =
    let l = c.loop-i in
    let a = c.args in
    let e : l.i ≡ a.n = omega arith in
    l.invariant ∙ ap (λ (k : ℕ). any (present (bytes_of a.iv)) (cut k a.store.now)) e
