-- `start::loads` meets its contract: its six tests are the definition's.
use mathlib.Core.Path.{sym, ap, ap₂, ◌∙◌}
use mathlib.Core.Bool.{◌&&◌}
use Rattle.words.specs.Bytes.{same}
use Rattle.words.specs.Machine.{bytes_of}
use Rattle.start.specs.Trace.{loads}
use Rattle.start.proofs.Splitting.{key_low, key_high}
use Rattle.start.proofs.loads.Goals as goal

pub returns : goal.returns
unfolding loads
returns c =
    let z = c.zero-zero.ensures in
    let a = c.args in
    let e1 = c.same.ensures ∙ ap₂ same c.high_half.ensures (sym (key_low a.low a.high)) in
    let e2 = c.same-2.ensures ∙ ap₂ same c.low_half.ensures c.mode_block.ensures in
    let e3 = c.same-3.ensures ∙ ap₂ same c.high_half-2.ensures (sym (key_high a.low a.high)) in
    let e4 = c.same-4.ensures ∙ ap (same (bytes_of a.s.r1)) z in
    let e5 = c.same-5.ensures ∙ ap (same (bytes_of a.s.r2)) z in
    let e6 = c.same-6.ensures ∙ ap (same (bytes_of a.s.r3)) z in
    λ i. e1 i && e2 i && e3 i && e4 i && e5 i && e6 i
