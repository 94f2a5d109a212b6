-- `page_file::survey` meets its contract: at each turn, what is known is known of the pages up to there.
use Rattle.std.proofs.Common.{◌≡◌, ℕ, ◌*◌, ◌/◌, List, [], ◌∷◌, ◌++◌, length, sym, ap, subst, ◌∙◌, arith}
use Rattle.words.proofs.Parts.{part_long}
use Rattle.fields.specs.Blocks.{cut, blocks}
use Rattle.fields.proofs.Blocks.{cut_long, cut_more}
use Rattle.page_file.specs.Inner.{Surveyed}
use Rattle.page_file.proofs.Pages.{lent_part}
use Rattle.page_file.proofs.Surveying.{seen_none, seen_fewer}
use Rattle.page_file.proofs.survey.Goals as goal

pub loop-i-init : goal.loop-i-init
loop-i-init c = let a = c.args in seen_none a.stay.now a.n a.file.now

pub look-s-requires : goal.look-s-requires
look-s-requires c =
    let l = c.loop-i in
    let a = c.args in
    let f = a.file.now in
    let few = seen_fewer a.stay.now a.n l.i f l.s l.invariant in (
      ap length (lent_part f l.i) ∙ part_long f (512 * l.i) 512 (omega arith),
      c.requires,
      omega arith,
    )

pub loop-i-preserved : goal.loop-i-preserved
loop-i-preserved c =
    let l = c.loop-i in
    let a = c.args in
    let f = a.file.now in
    subst (λ (bs : List (List ℕ)). Surveyed a.stay.now a.n bs c.look-s.result)
    (ap (λ (b : List ℕ). cut l.i f ++ b ∷ []) (lent_part f l.i) ∙ sym (cut_more l.i f)) (c.look-s.ensures (cut l.i f) (cut_long l.i f) l.invariant)

pub returns : goal.returns
unfolding blocks
returns c =
    let l = c.loop-i in
    let a = c.args in
    let e : l.i ≡ length a.file.now / 512 = omega arith in
    subst (λ (j : ℕ). Surveyed a.stay.now a.n (cut j a.file.now) l.s) e l.invariant
