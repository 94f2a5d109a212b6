-- `fields::put_check` meets its contract: the four bytes that it writes are the last, and those before them are the ones that it sums.
use Rattle.fields.proofs.Checked.{check_put}
use Rattle.fields.proofs.put_check.Goals as goal

pub returns : goal.returns
returns c =
    check_put c.args.block.now _ c.check-sum.result c.requires c.check-sum.ensures c.put.ensures
