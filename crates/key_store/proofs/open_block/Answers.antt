-- `key_store::open_block` meets its contract: all lengths are in order, so that the page's call refuses a wrong tag and nothing else.
use Rattle.std.proofs.Common.{◌∙◌}
use Rattle.std.proofs.lemmas.Result.{err_from_is_err_and}
use Rattle.key_store.proofs.SealedKeys.{by_tag, opened}
use Rattle.key_store.proofs.open_block.Goals as goal

pub returns-in_err-open : goal.returns-in_err-open
returns-in_err-open c =
    let p = err_from_is_err_and c.from_residual.result c.from_residual.ensures.1 in
    rw (p.1, p.2) (c.in_err-open.ensures.answer ∙ by_tag c.args.key.now c.args.iv.now c.args.block.now c.requires.0 c.requires.1 c.requires.2)

pub returns : goal.returns
returns c =
    opened c.args.key.now c.args.iv.now c.args.block.now c.requires.0 c.requires.1 c.requires.2 c.in_ok-open.ensures.answer
    c.in_ok-open.ensures.out
