-- `tulvekas::short_tag` meets its contract, test by test.
use mathlib.Core.Path.{refl, sym, ◌∙◌}
use Rattle.scope.proofs.Refused.{refused}
use Rattle.tulvekas.proofs.PageAnswers.{tag_refused, tag_over, tag_short}
use Rattle.tulvekas.proofs.short_tag.Goals as goal

pub returns-in-Err : goal.returns-in-Err
returns-in-Err c =
    let a = c.args in
    tag_refused a.key.now a.iv.now a.ad.now a.text.now c.in-Err.ensures (refused c.in-Err.e)

pub returns-then-over_limit : goal.returns-then-over_limit
returns-then-over_limit c =
    let a = c.args in
    tag_over a.key.now a.iv.now a.ad.now a.text.now c.in-Ok.ensures refl (sym c.over_limit.ensures ∙ c.if-over_limit.true)

pub returns-else-over_limit : goal.returns-else-over_limit
returns-else-over_limit c =
    let a = c.args in
    tag_short a.key.now a.iv.now a.ad.now a.text.now c.in-Ok.ensures refl (sym c.over_limit.ensures ∙ c.if-over_limit.false)
