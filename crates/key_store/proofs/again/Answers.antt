-- `key_store::again` meets its contract, by the block's mark and number as they are read from the store.
use Rattle.std.proofs.Common.{ℕ, List, sym, ap, ◌∙◌}
use Rattle.fields.specs.Blocks.{cut}
use Rattle.key_store.specs.Store.{present, any}
use Rattle.key_store.specs.declared.Mark.TheVariants.{Empty}
use Rattle.key_store.proofs.Surveying.{mark_is, iv_read}
use Rattle.key_store.proofs.again.Goals as goal

pub returns-then-eq : goal.returns-then-eq
returns-then-eq c = rw (sym (mark_is c.args.store.now c.args.i c.read.result Empty c.read.ensures) ∙ sym c.eq.ensures ∙ c.if-eq.true)

pub returns : goal.returns
returns c =
    let a = c.args in
    let s = a.store.now in
    c.present.ensures
    ∙ ap (λ (v : List ℕ). any (present v) (cut a.i s)) (c.load.ensures ∙ iv_read s a.i)
    ∙ rw (sym (mark_is s a.i c.read.result Empty c.read.ensures) ∙ sym c.eq.ensures ∙ c.if-eq.false)
