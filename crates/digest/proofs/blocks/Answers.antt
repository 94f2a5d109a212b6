-- `digest::blocks` meets its contract: what is left, from the hash so far on, leads where the whole leads.
use Rattle.std.proofs.Common.{sym, ap, ◌∙◌, arith}
use Rattle.ghash.specs.Hash.{eat}
use Rattle.ghash.specs.Machine.{bytes_of_element}
use Rattle.digest.proofs.Settling.{hash_short}
use Rattle.digest.proofs.Slices.{hashed_more}
use Rattle.digest.proofs.blocks.Goals as goal

pub loop-block-preserved : goal.loop-block-preserved
loop-block-preserved c =
    let l = c.loop-block in
    let a = c.args in
    let s = c.in-Some.ensures.steps in
    let e = ap (eat (bytes_of_element a.h) (bytes_of_element l.z)) (c.from_block-x.ensures ∙ c.load.ensures) in
    (s.0 ∙ l.invariant.0, hashed_more (bytes_of_element a.h) (bytes_of_element l.z) _ _ s.1.0 (s.1.1 ∙ l.invariant.0) (c.absorb_element-z.ensures ∙ e) l.invariant.1)

pub returns : goal.returns
returns c =
    let l = c.loop-block in
    sym (hash_short (bytes_of_element c.args.h) (bytes_of_element l.z) l.block-iterator.rest.now (omega (arith, c.in-None.ensures.steps))) ∙ l.invariant.1
