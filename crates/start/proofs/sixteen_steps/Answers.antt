-- `start::sixteen_steps` meets its contract.
use mathlib.Core.Path.{sym, ap, ap₂, ◌∙◌}
use Rattle.start.specs.Start.{into_r1, initial, initials, start}
use Rattle.start.proofs.Splitting.{key_low, key_high}
use Rattle.start.proofs.sixteen_steps.Goals as goal

pub returns : goal.returns
unfolding start initials
returns c =
    let a = c.args in
    c.into_r1-2.ensures
    ∙ ap₂ into_r1 (sym (key_high a.low a.high))
    (c.initials-t.ensures
    ∙ ap initial (c.into_r1.ensures
    ∙ ap₂ into_r1 (sym (key_low a.low a.high)) (c.initials-s.ensures ∙ ap (initials 15) c.load.ensures)))
