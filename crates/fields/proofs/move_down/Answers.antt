-- `fields::move_down` meets its contract: `copy_within` writes the part that the contract names.
use Rattle.std.proofs.Common.{◌≡◌, ◌+◌, ◌-◌, drop, ap, ◌∙◌, arith, length-drop}
use lib.Seq.{paste}
use Rattle.words.proofs.Writing.{put_pasted}
use Rattle.fields.proofs.move_down.Goals as goal

pub returns : goal.returns
returns c =
    let a = c.args in
    let e : a.from + a.k - a.from ≡ a.k = omega arith in
    c.copy_within.ensures.after
    ∙ ap (paste a.s.now a.at (drop a.from a.s.now)) e
    ∙ put_pasted a.s.now (drop a.from a.s.now) a.at a.k (omega (arith, length-drop a.from a.s.now)) (omega arith)
