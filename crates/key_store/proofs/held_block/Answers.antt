-- `key_store::held_block` meets its contract: the page's call seals the stay's key with no data, and both parts go into the block.
use Rattle.scope.proofs.Refused.{is_accepted}
use Rattle.std.proofs.Common.{◌≡◌, length, sym, ap, ◌∙◌, arith, rules, take_all}
use Rattle.page.specs.Machine.{tag_of}
use Rattle.page.proofs.Answers.{seal_accepted}
use Rattle.key_store.proofs.SealedKeys.{sealed}
use Rattle.key_store.proofs.held_block.Goals as goal
use Rattle.key_store.proofs.held_block.Goals.{After-unwrap-tag}

tag_long : (c : After-unwrap-tag) → length c.unwrap-tag.result ≡ 16
tag_long c = search rules

-- nothing is refused, whichever of the two keys is sealed
pub unwrap-tag-requires : goal.unwrap-tag-requires
unwrap-tag-requires c =
    let k = c.requires.0 in
    let s = c.requires.2 in
    is_accepted c.seal.result
    (c.seal.ensures.answer
    ∙ seal_accepted _ _ _ (omega (arith, k, s)) c.requires.1 (search rules) _ _ (omega (arith, k, s)) (omega (arith, k, s)))

pub load-requires-2 : goal.load-requires-2
load-requires-2 c = omega (arith, tag_long (goal.at.load-requires-2 c).After-unwrap-tag)

pub returns : goal.returns
returns c =
    let iv = c.args.iv.now in
    c.block_of.ensures
    ∙ sealed c.args.key.now iv c.args.stay_key.now _ c.unwrap-tag.result _ _ c.requires.0 c.requires.1 c.requires.2
    c.seal.ensures.out
    (ap tag_of (sym c.unwrap-tag.ensures) ∙ c.seal.ensures.tag)
    (c.load.ensures ∙ take_all 16 iv (omega (arith, c.requires.1)))
    (c.load-2.ensures ∙ take_all 16 c.unwrap-tag.result (omega (arith, tag_long (goal.at.returns c).After-unwrap-tag)))
