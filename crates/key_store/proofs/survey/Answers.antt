-- `key_store::survey` meets its contract: at each turn, what is known is known of the blocks up to there.
use Rattle.std.proofs.Common.{◌≡◌, ℕ, ◌/◌, List, length, subst, ◌∙◌, arith, take_all}
use Rattle.words.specs.Machine.{bytes_of}
use Rattle.fields.specs.Blocks.{cut, blocks, whole}
use Rattle.key_store.specs.Inner.{Surveyed}
use Rattle.key_store.proofs.Surveying.{seen_none}
use Rattle.key_store.proofs.survey.Goals as goal

pub loop-i-init : goal.loop-i-init
unfolding cut
loop-i-init c = seen_none _ (whole c.args.store.now)

pub loop-i-preserved : goal.loop-i-preserved
loop-i-preserved c = c.look-s.ensures (whole c.args.store.now) c.loop-i.invariant

pub returns : goal.returns
unfolding blocks
returns c =
    let l = c.loop-i in
    let s = c.args.store.now in
    let e : l.i ≡ length s / 512 = omega arith in
    let v = c.load-number.ensures ∙ take_all 16 c.args.iv.now (omega (arith, c.requires)) in
    subst (λ (n : List ℕ). Surveyed n (whole s) (cut (length s / 512) s) l.s) v
    (subst (λ (j : ℕ). Surveyed (bytes_of c.load-number.result) (whole s) (cut j s) l.s) e l.invariant)
