-- `key_store::well_laid` meets its contract: each test is a rule, and with 512 bytes all of them together are the answer.
use Rattle.std.proofs.Common.{◌≡◌, Bool, not, ◌||◌, length, get_or, ap, ap₂, ◌∙◌, arith, eq-eqb, ne_eqb, take_all}
use Rattle.fields.specs.Fields.{all_zero}
use Rattle.key_store.specs.Layout.{rules}
use Rattle.key_store.specs.declared.Mark.TheVariants.{Empty, Erased}
use Rattle.key_store.proofs.Marks.{read_as, read_some}
use Rattle.key_store.proofs.Obeying.{broken, tested}
use Rattle.key_store.proofs.well_laid.Goals as goal

pub returns-then-block-ne512 : goal.returns-then-block-ne512
unfolding rules
returns-then-block-ne512 c =
    let b = c.args.block.now in
    let short : length b ≡ 512 → ⊥ = λ e. omega arith in
    broken b 0 (ne_eqb (length b) 512 short)

pub returns : goal.returns
unfolding rules
returns c =
    let b = c.args.block.now in
    let long : length b ≡ 512 = omega arith in
    let mark = get_or b 0 0 in
    let read = c.read-mark.ensures in
    tested
    (eq-eqb (length b) 512 long)
    (c.is_some.ensures ∙ read_some mark c.read-mark.result read)
    (ap₂ (λ (e t : Bool). e || t) (c.ne.ensures ∙ ap not (read_as mark c.read-mark.result Empty read)) (c.all_zero-all.ensures ∙ ap all_zero (take_all 512 b (omega arith))))
    (ap₂ (λ (e t : Bool). e || t) (c.ne-2.ensures ∙ ap not (read_as mark c.read-mark.result Erased read)) c.all_zero-key_and_tag.ensures)
    c.all_zero-zero1.ensures
    c.all_zero-zero80.ensures
    c.check_holds-sum.ensures
