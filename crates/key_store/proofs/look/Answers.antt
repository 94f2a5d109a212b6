-- `key_store::look` meets its contract: what it reads of the block is what the block says, and with what was seen before it makes what is known of all.
use Rattle.std.proofs.Common.{◌≡◌, ℕ, ◌+◌, ◌-◌, ◌*◌, not, List, take, drop, refl, sym, ap, ◌∙◌, arith}
use Rattle.std.specs.Option.{option_or}
use Rattle.words.specs.Bytes.{same, part}
use Rattle.words.specs.Machine.{bytes_of}
use Rattle.fields.specs.Blocks.{cut}
use Rattle.fields.proofs.Blocks.{cut_long, cut_more}
use Rattle.key_store.specs.Layout.{well_laid}
use Rattle.key_store.specs.declared.Mark.TheVariants.{Empty, Held}
use Rattle.key_store.proofs.Surveying.{mark_is, iv_read, seen_in, seen_more}
use Rattle.key_store.proofs.look.Goals as goal

pub returns : goal.returns
returns c w g =
    let a = c.args in
    let s = a.store.now in
    let iv = bytes_of a.iv in
    let b = part (512 * a.i) 512 s in
    let long : 512 * a.i + 512 - 512 * a.i ≡ 512 = omega arith in
    seen_in iv w _ (cut_more a.i s)
    (seen_more iv w (cut a.i s) b a.s _ g a.i _ _ _ c.same-asked.result c.well_laid-laid.result c.again-twice.result (sym (cut_long a.i s))
    (c.eq.ensures ∙ mark_is s a.i c.read-mark.result Empty c.read-mark.ensures)
    (c.ne.ensures ∙ ap not (mark_is s a.i c.read-mark.result Empty c.read-mark.ensures))
    (c.eq-2.ensures ∙ mark_is s a.i c.read-mark.result Held c.read-mark.ensures)
    (c.same-asked.ensures ∙ ap (λ (v : List ℕ). same v iv) (c.load.ensures ∙ iv_read s a.i))
    (c.well_laid-laid.ensures ∙ ap (λ (n : ℕ). well_laid (take n (drop (512 * a.i) s))) long)
    c.again-twice.ensures
    refl
    (c.or.ensures ∙ ap (option_or a.s.empty) c.then_some-empty.ensures)
    (c.or-2.ensures ∙ ap (option_or a.s.present) c.then_some-present.ensures)
    (c.or-3.ensures ∙ ap (option_or a.s.holding) c.then_some-holding.ensures))
