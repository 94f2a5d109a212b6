-- `page::before_tag` meets its contract, test by test.
use mathlib.Core.Path.{◌≡◌, sym, ◌∙◌}
use native.Mathlib.Omega.{arith}
use lib.ListN.{length}
use Rattle.std.proofs.lemmas.Result.{err_from_is_err_and}
use Rattle.scope.proofs.Refused.{refused}
use Rattle.start.proofs.Answers.{lengths_right}
use Rattle.page.proofs.Refusing.{before_start, before_cut, before_over, before_short, before_none}
use Rattle.page.proofs.before_tag.Goals as goal
use Rattle.page.proofs.before_tag.Goals.{In_ok-lengths}

key_and_iv : (c : In_ok-lengths) → (length c.args.key.now ≡ 32) × (length c.args.iv.now ≡ 16)
key_and_iv c = lengths_right _ _ (sym c.in_ok-lengths.ensures)

pub returns-in_err-lengths : goal.returns-in_err-lengths
returns-in_err-lengths c =
    let a = c.args in
    let p = err_from_is_err_and c.from_residual.result c.from_residual.ensures.1 in
    rw (p.1, p.2) (before_start a.key.now a.iv.now a.ad.now a.cipher.now a.tag.now a.out.now c.in_err-lengths.ensures (refused _))

pub returns-then-tag-ne16 : goal.returns-then-tag-ne16
returns-then-tag-ne16 c =
    let n = key_and_iv (goal.at.returns-then-tag-ne16 c).In_ok-lengths in
    let a = c.args in
    before_cut a.key.now a.iv.now a.ad.now a.cipher.now a.tag.now a.out.now n.0 n.1 c.if-tag-ne16.true

pub returns-then-over_limit : goal.returns-then-over_limit
returns-then-over_limit c =
    let n = key_and_iv (goal.at.returns-then-over_limit c).In_ok-lengths in
    let a = c.args in
    before_over a.key.now a.iv.now a.ad.now a.cipher.now a.tag.now a.out.now n.0 n.1 c.if-tag-ne16.false (sym c.over_limit.ensures ∙ c.if-over_limit.true)

pub returns-then-out-cipher : goal.returns-then-out-cipher
returns-then-out-cipher c =
    let n = key_and_iv (goal.at.returns-then-out-cipher c).In_ok-lengths in
    let a = c.args in
    before_short a.key.now a.iv.now a.ad.now a.cipher.now a.tag.now a.out.now n.0 n.1 c.if-tag-ne16.false (sym c.over_limit.ensures ∙ c.if-over_limit.false) (omega (arith, c.if-out-cipher.true))

pub returns : goal.returns
returns c =
    let n = key_and_iv (goal.at.returns c).In_ok-lengths in
    let a = c.args in
    before_none a.key.now a.iv.now a.ad.now a.cipher.now a.tag.now a.out.now 0
    (record { key_long = n.0; iv_long = n.1; tag_long = c.if-tag-ne16.false; not_over = sym c.over_limit.ensures ∙ c.if-over_limit.false; room = omega (arith, c.if-out-cipher.false) })
