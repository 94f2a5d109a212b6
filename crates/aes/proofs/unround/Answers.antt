-- `aes::unround` meets its contract: the columns are unmixed, and then each is gathered through the inverse S-box.
use Rattle.aes.proofs.Blocks.{is_unround}
use Rattle.aes.proofs.unround.Goals as goal

pub returns : goal.returns
returns c =
    is_unround c.args.x _ c.args.t.now c.requires _ _ _ _
    c.unmixed-a.ensures c.unmixed-b.ensures c.unmixed-c.ensures c.unmixed-d.ensures
    c.gather.ensures c.gather-2.ensures c.gather-3.ensures c.gather-4.ensures
