-- `key_store::fetch` meets its contract, by what it finds in the order of its refusals; the block that it opens is the one at the place surveyed.
use Rattle.std.proofs.Common.{◌≡◌, ℕ, ◌+◌, ◌-◌, ◌*◌, take, drop, ap, arith, rules}
use Rattle.std.proofs.lemmas.Result.{err_from_is_err_and}
use Rattle.scope.specs.declared.Refusal.TheVariants.{NoKey}
use Rattle.key_store.proofs.Numbers.{fetch_key_length, fetch_iv, fetch_broken, fetch_absent, fetch_opened, held_inside}
use Rattle.key_store.proofs.fetch.Goals as goal

pub returns-then-key-ne32 : goal.returns-then-key-ne32
returns-then-key-ne32 c =
    let a = c.args in
    let p = fetch_key_length a.key.now a.iv.now a.store.now c.if-key-ne32.true in record { answer = p.0; key = p.1 }

pub returns-then-iv-ne16 : goal.returns-then-iv-ne16
returns-then-iv-ne16 c =
    let a = c.args in
    let p = fetch_iv a.key.now a.iv.now a.store.now c.if-key-ne32.false c.if-iv-ne16.true in record { answer = p.0; key = p.1 }

pub returns-then-not-s : goal.returns-then-not-s
returns-then-not-s c =
    let a = c.args in
    let p =
    fetch_broken a.key.now a.iv.now a.store.now c.if-key-ne32.false c.if-iv-ne16.false c.survey-s.result c.survey-s.ensures c.if-not-s.true in
    record { answer = p.0; key = p.1 }

pub returns-in_err-at : goal.returns-in_err-at
returns-in_err-at c =
    let a = c.args in
    let q = err_from_is_err_and c.from_residual.result c.from_residual.ensures.1 in
    let none = c.in_err-at.ensures.ok_part in
    let given = rw none at c.in_err-at.ensures.value in
    let e : c.in_err-at.field-0.0 ≡ NoKey = cc in
    let p =
    fetch_absent a.key.now a.iv.now a.store.now c.if-key-ne32.false c.if-iv-ne16.false c.survey-s.result c.survey-s.ensures c.if-not-s.false
    none in
    record { answer = rw (q.1, q.2, e) p.0; key = rw q.1 p.1 }

pub returns : goal.returns
returns c =
    let a = c.args in
    let at = 512 * c.in_ok-at.field-0 in
    let long : at + 512 - at ≡ 512 = omega arith in
    let p =
    fetch_opened a.key.now a.iv.now a.store.now c.if-key-ne32.false c.if-iv-ne16.false c.survey-s.result c.survey-s.ensures c.if-not-s.false
    c.in_ok-at.field-0 c.in_ok-at.ensures.ok_part (ap (λ (n : ℕ). take n (drop at a.store.now)) long) c.open_block.result c.open_block.ensures in
    record { answer = p.0; key = p.1 }

pub overflow_mul-at : goal.overflow_mul-at
overflow_mul-at c =
    let h = held_inside c.args.iv.now c.args.store.now c.survey-s.result c.survey-s.ensures c.in_ok-at.field-0 c.in_ok-at.ensures.ok_part in
    search rules

pub overflow_add-at : goal.overflow_add-at
overflow_add-at c =
    let h = held_inside c.args.iv.now c.args.store.now c.survey-s.result c.survey-s.ensures c.in_ok-at.field-0 c.in_ok-at.ensures.ok_part in
    search rules

pub slice_bounds-open_block-end : goal.slice_bounds-open_block-end
slice_bounds-open_block-end c =
    held_inside c.args.iv.now c.args.store.now c.survey-s.result c.survey-s.ensures c.in_ok-at.field-0 c.in_ok-at.ensures.ok_part
