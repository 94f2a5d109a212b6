-- `fields::clear` meets its contract: what is filled is the part that the contract names.
use Rattle.std.proofs.Common.{◌≡◌, ℕ, ◌+◌, ◌-◌, length, replicate, sym, ap, ◌∙◌, arith}
use lib.ListN.{length-replicate}
use Rattle.words.specs.Bytes.{part}
use Rattle.words.proofs.Parts.{part_long}
use Rattle.words.proofs.Writing.{put_part}
use Rattle.fields.proofs.clear.Goals as goal

pub returns : goal.returns
returns c =
    let a = c.args in
    let e : a.at + a.k - a.at ≡ a.k = omega arith in
    let n : length (part a.at (a.at + a.k - a.at) a.s.now) ≡ a.k = rw e (part_long a.s.now a.at a.k (omega arith)) in
    put_part a.s.now a.at (a.at + a.k - a.at) (c.fill.ensures.after (λ y e. e) ∙ ap (λ (m : ℕ). replicate m 0) n)
    (e ∙ sym (length-replicate {A = ℕ} a.k 0)) (omega arith)
