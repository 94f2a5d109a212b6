-- `key_store::store` meets its contract, by what it finds in the order of its refusals.
use Rattle.std.proofs.Common.{◌≡◌, ℕ, List, sym, ap, ◌∙◌}
use Rattle.std.proofs.lemmas.Result.{err_from_is_err_and}
use Rattle.fields.specs.Blocks.{replaced}
use Rattle.scope.specs.declared.Refusal.TheVariants.{ShortOutput}
use Rattle.key_store.proofs.Numbers.{store_key, store_stay_key, store_iv, store_broken, store_there, store_full, store_placed, empty_inside}
use Rattle.key_store.proofs.store.Goals as goal

pub returns-then-key-ne32 : goal.returns-then-key-ne32
returns-then-key-ne32 c =
    let a = c.args in
    let p = store_key a.key.now a.iv.now a.stay_key.now a.store.now c.if-key-ne32.true in record { answer = p.0; store = p.1 }

pub returns-then-stay_key-ne32 : goal.returns-then-stay_key-ne32
returns-then-stay_key-ne32 c =
    let a = c.args in
    let p = store_stay_key a.key.now a.iv.now a.stay_key.now a.store.now c.if-key-ne32.false c.if-stay_key-ne32.true in
    record { answer = p.0; store = p.1 }

pub returns-then-iv-ne16 : goal.returns-then-iv-ne16
returns-then-iv-ne16 c =
    let a = c.args in
    let p = store_iv a.key.now a.iv.now a.stay_key.now a.store.now c.if-key-ne32.false c.if-stay_key-ne32.false c.if-iv-ne16.true in
    record { answer = p.0; store = p.1 }

pub returns-then-not-s : goal.returns-then-not-s
returns-then-not-s c =
    let a = c.args in
    let p =
    store_broken a.key.now a.iv.now a.stay_key.now a.store.now c.if-key-ne32.false c.if-stay_key-ne32.false c.if-iv-ne16.false
    c.survey-s.result c.survey-s.ensures c.if-not-s.true in
    record { answer = p.0; store = p.1 }

pub returns-then-is_some : goal.returns-then-is_some
returns-then-is_some c =
    let a = c.args in
    let p =
    store_there a.key.now a.iv.now a.stay_key.now a.store.now c.if-key-ne32.false c.if-stay_key-ne32.false c.if-iv-ne16.false
    c.survey-s.result c.survey-s.ensures c.if-not-s.false (sym c.is_some.ensures ∙ c.if-is_some.true) in
    record { answer = p.0; store = p.1 }

pub returns-in_err-i : goal.returns-in_err-i
returns-in_err-i c =
    let a = c.args in
    let q = err_from_is_err_and c.from_residual.result c.from_residual.ensures.1 in
    let none = c.in_err-i.ensures.ok_part in
    let given = rw none at c.in_err-i.ensures.value in
    let e : c.in_err-i.field-0.0 ≡ ShortOutput = cc in
    let p =
    store_full a.key.now a.iv.now a.stay_key.now a.store.now c.if-key-ne32.false c.if-stay_key-ne32.false c.if-iv-ne16.false
    c.survey-s.result c.survey-s.ensures c.if-not-s.false (sym c.is_some.ensures ∙ c.if-is_some.false) none in
    record { answer = rw (q.1, q.2, e) p.0; store = p.1 }

pub put_block-requires : goal.put_block-requires
put_block-requires c =
    empty_inside c.args.iv.now c.args.store.now c.survey-s.result c.survey-s.ensures c.in_ok-i.i c.in_ok-i.ensures.ok_part

pub returns : goal.returns
returns c =
    let a = c.args in
    let p =
    store_placed a.key.now a.iv.now a.stay_key.now a.store.now c.if-key-ne32.false c.if-stay_key-ne32.false c.if-iv-ne16.false
    c.survey-s.result c.survey-s.ensures c.if-not-s.false (sym c.is_some.ensures ∙ c.if-is_some.false) c.in_ok-i.i c.in_ok-i.ensures.ok_part
    (c.put_block.ensures ∙ ap (λ (b : List ℕ). replaced c.in_ok-i.i b a.store.now) c.held_block.ensures) in
    record { answer = p.0; store = p.1 }
