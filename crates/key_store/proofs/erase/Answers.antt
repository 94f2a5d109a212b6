-- `key_store::erase` meets its contract, by what it finds in the order of its refusals; the block that it erases is the one at the place surveyed.
use Rattle.std.proofs.Common.{◌≡◌, ℕ, ◌+◌, ◌-◌, ◌*◌, length, take, drop, ap, ◌∙◌, arith, rules}
use Rattle.std.proofs.lemmas.Result.{err_from_is_err_and}
use Rattle.words.proofs.Parts.{part_long}
use Rattle.key_store.specs.Layout.{well_laid}
use Rattle.scope.specs.declared.Refusal.TheVariants.{NoKey}
use Rattle.key_store.proofs.Numbers.{erase_iv, erase_broken, erase_none, erase_placed, held_laid, held_inside}
use Rattle.key_store.proofs.erase.Goals as goal

pub returns-then-iv-ne16 : goal.returns-then-iv-ne16
returns-then-iv-ne16 c =
    let a = c.args in
    let p = erase_iv a.iv.now a.store.now c.if-iv-ne16.true in record { answer = p.0; store = p.1 }

pub returns-then-not-s : goal.returns-then-not-s
returns-then-not-s c =
    let a = c.args in
    let p = erase_broken a.iv.now a.store.now c.if-iv-ne16.false c.survey-s.result c.survey-s.ensures c.if-not-s.true in
    record { answer = p.0; store = p.1 }

pub returns-in_err-at : goal.returns-in_err-at
returns-in_err-at c =
    let a = c.args in
    let q = err_from_is_err_and c.from_residual.result c.from_residual.ensures.1 in
    let none = c.in_err-at.ensures.ok_part in
    let given = rw none at c.in_err-at.ensures.value in
    let e : c.in_err-at.field-0.0 ≡ NoKey = cc in
    let p = erase_none a.iv.now a.store.now c.if-iv-ne16.false c.survey-s.result c.survey-s.ensures c.if-not-s.false none in
    record { answer = rw (q.1, q.2, e) p.0; store = p.1 }

pub erase_block-requires : goal.erase_block-requires
erase_block-requires c =
    let a = c.args in
    let s = a.store.now in
    let n = c.in_ok-at.field-0 in
    let k : 512 * n + 512 - 512 * n ≡ 512 = omega arith in
    let f = c.in_ok-at.ensures.ok_part in (
      ap (λ (m : ℕ). length (take m (drop (512 * n) s))) k ∙ part_long s (512 * n) 512 (held_inside a.iv.now s c.survey-s.result c.survey-s.ensures n f),
      ap (λ (m : ℕ). well_laid (take m (drop (512 * n) s))) k ∙ held_laid a.iv.now s c.survey-s.result c.survey-s.ensures c.if-not-s.false n f,
    )

pub returns : goal.returns
returns c =
    let a = c.args in
    let n = c.in_ok-at.field-0 in
    let k : 512 * n + 512 - 512 * n ≡ 512 = omega arith in
    let p =
    erase_placed a.iv.now a.store.now c.if-iv-ne16.false c.survey-s.result c.survey-s.ensures c.if-not-s.false n c.in_ok-at.ensures.ok_part k
    c.erase_block.ensures in
    record { answer = p.0; store = p.1 }

pub overflow_mul-at : goal.overflow_mul-at
overflow_mul-at c =
    let h = held_inside c.args.iv.now c.args.store.now c.survey-s.result c.survey-s.ensures c.in_ok-at.field-0 c.in_ok-at.ensures.ok_part in
    search rules

pub overflow_add-at : goal.overflow_add-at
overflow_add-at c =
    let h = held_inside c.args.iv.now c.args.store.now c.survey-s.result c.survey-s.ensures c.in_ok-at.field-0 c.in_ok-at.ensures.ok_part in
    search rules

pub slice_bounds-erase_block-end : goal.slice_bounds-erase_block-end
slice_bounds-erase_block-end c =
    held_inside c.args.iv.now c.args.store.now c.survey-s.result c.survey-s.ensures c.in_ok-at.field-0 c.in_ok-at.ensures.ok_part
